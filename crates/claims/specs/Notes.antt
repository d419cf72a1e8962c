-- Order 3, the handover note: what saving and restoring are answered in every case, and the ten bytes of a note.
use Rattle.std.specs.Prelude.{List, [], ◌∷◌, map, ◌≢◌, ◌≡◌, ℕ, ◌+◌, ◌*◌, ◌/◌, ◌%◌, ◌≤◌, ◌<◌, length}
use Rattle.refusal.specs.Outcome.{Outcome, refused, given, or_else}
use Rattle.session.specs.declared.Session.{Session}
use Rattle.session.specs.Handover.{save_of, restore_of}
use Rattle.claims.specs.Texts.{byte}
use Rattle.claims.specs.TextExamples.{Example}

-- the mark 4D D3
abbrev pub Marked : List ℕ → Type 0
Marked note = (byte note 0 ≡ 0x4D) × (byte note 1 ≡ 0xD3)

-- the number of the four bytes from a place on, the least first
abbrev pub four : List ℕ → ℕ → ℕ
four note i = byte note i + byte note (i + 1) * 256 + byte note (i + 2) * 65536 + byte note (i + 3) * 16777216

-- the mark, then moved and refused
abbrev pub bytes_of : Session → List ℕ
bytes_of session =
    let m = session.moved in
    let r = session.refused in
    0x4D
    ∷ 0xD3
    ∷ m % 256
    ∷ m / 256 % 256
    ∷ m / 65536 % 256
    ∷ m / 16777216
    ∷ r % 256
    ∷ r / 256 % 256
    ∷ r / 65536 % 256
    ∷ r / 16777216
    ∷ []

abbrev pub session_with : ℕ → ℕ → Session
session_with moved denied = record { moved = moved; refused = denied }

abbrev pub restores : List ℕ → Outcome Session → Example Session
restores note answer = record { defined = restore_of note; expected = answer }

unfoldable pub examples : List (Example Session)
examples =
    -- 0 and 0; 1,000,000,000 and 0; 999,999,999 and 1
    restores (0x4D ∷ 0xD3 ∷ 0 ∷ 0 ∷ 0 ∷ 0 ∷ 0 ∷ 0 ∷ 0 ∷ 0 ∷ []) (given (session_with 0 0))
    ∷ restores (0x4D ∷ 0xD3 ∷ 0x00 ∷ 0xCA ∷ 0x9A ∷ 0x3B ∷ 0 ∷ 0 ∷ 0 ∷ 0 ∷ []) (given (session_with 1000000000 0))
    ∷ restores (0x4D ∷ 0xD3 ∷ 0xFF ∷ 0xC9 ∷ 0x9A ∷ 0x3B ∷ 1 ∷ 0 ∷ 0 ∷ 0 ∷ []) (given (session_with 999999999 1))
    -- 16: one more; both numbers 2 ^ 32 - 1
    ∷ restores (0x4D ∷ 0xD3 ∷ 0x00 ∷ 0xCA ∷ 0x9A ∷ 0x3B ∷ 1 ∷ 0 ∷ 0 ∷ 0 ∷ []) (refused 16)
    ∷ restores (0x4D ∷ 0xD3 ∷ 255 ∷ 255 ∷ 255 ∷ 255 ∷ 255 ∷ 255 ∷ 255 ∷ 255 ∷ []) (refused 16)
    -- 9: a record's mark, and the mark's bytes exchanged; and before 16
    ∷ restores (0x4D ∷ 0xD2 ∷ 0 ∷ 0 ∷ 0 ∷ 0 ∷ 0 ∷ 0 ∷ 0 ∷ 0 ∷ []) (refused 9)
    ∷ restores (0xD3 ∷ 0x4D ∷ 255 ∷ 255 ∷ 255 ∷ 255 ∷ 255 ∷ 255 ∷ 255 ∷ 255 ∷ []) (refused 9)
    -- 8: no byte, one less and one more; and before 9
    ∷ restores [] (refused 8)
    ∷ restores (0x4D ∷ 0xD3 ∷ 0 ∷ 0 ∷ 0 ∷ 0 ∷ 0 ∷ 0 ∷ 0 ∷ []) (refused 8)
    ∷ restores (0x4D ∷ 0xD2 ∷ 0 ∷ 0 ∷ 0 ∷ 0 ∷ 0 ∷ 0 ∷ 0 ∷ 0 ∷ 0 ∷ []) (refused 8)
    ∷ []

pub record Notes : Type 0 where
  -- saving: 8, then 16, else the note
  pub saved_8 : (session : Session) (room : ℕ) → room ≢ 10 → save_of session room ≡ refused 8
  pub saved_16 : (session : Session) → 1000000000 < session.moved + session.refused → save_of session 10 ≡ refused 16
  pub saved_as : (session : Session) → session.moved + session.refused ≤ 1000000000 → save_of session 10 ≡ given (bytes_of session)
  -- restoring: 8, 9, then 16, else the session that the note says
  pub restored_8 : (note : List ℕ) → length note ≢ 10 → restore_of note ≡ refused 8
  pub restored_9 : (note : List ℕ) → length note ≡ 10 → (Marked note → ⊥) → restore_of note ≡ refused 9
  pub restored_16 : (note : List ℕ) → length note ≡ 10 → Marked note → 1000000000 < four note 2 + four note 6 →
      restore_of note ≡ refused 16
  pub restored_as : (note : List ℕ) → length note ≡ 10 → Marked note → four note 2 + four note 6 ≤ 1000000000 →
      restore_of note ≡ given (session_with (four note 2) (four note 6))
  -- what was lent for a note holds it then, and a refusal leaves it
  pub written : (piece note : List ℕ) → or_else piece (given note) ≡ note
  pub kept : (piece : List ℕ) (n : ℕ) → or_else piece (refused n) ≡ piece
  -- worked notes
  pub worked : map (λ (e : Example Session). e.defined) examples ≡ map (λ (e : Example Session). e.expected) examples
