-- Order 1, positions as text: what stands in a text, what each refusal of a text means, and that positions and texts are one to one.
use Rattle.std.specs.Prelude.{List, [], ◌∷◌, ◌⊎◌, ◌↔◌, ◌≢◌, true, false, ◌≡◌, ℕ, ◌+◌, ◌-◌, ◌*◌, ◌≤◌, ◌<◌, eqb, ℤ, pos, negsuc, nat_abs, length, get_or}
use Rattle.whole.specs.declared.Signed.{Signed}
use Rattle.whole.specs.Signed.{join_of}
use Rattle.angle.specs.Sexagesimal.{signed_of}
use Rattle.refusal.specs.Outcome.{given, refused, or_else}
use Rattle.parallel.specs.Refusal.{bad_latitude}
use Rattle.projection.specs.Refusal.{bad_longitude}
use Rattle.iso6709.specs.Refusal.{bad_length, bad_shape, bad_sixties, bad_zero}
use Rattle.iso6709.specs.Answer.{latitude_in, longitude_in, read_order, read_of, write_order, write_of}

-- the byte at a place, the number of the two digits from a place on, and of three
abbrev pub byte : List ℕ → ℕ → ℕ
byte text i = get_or text i 0

abbrev pub two : List ℕ → ℕ → ℕ
two text i = (byte text i - 48) * 10 + (byte text (i + 1) - 48)

abbrev pub three : List ℕ → ℕ → ℕ
three text i = (byte text i - 48) * 100 + two text (i + 1)

-- '+' or '-'
abbrev pub IsSign : ℕ → Type 0
IsSign b = (b ≡ 43) ⊎ (b ≡ 45)

-- the 22 places: a sign at 0 and 10, a point at 7 and 18, the slash at 21, and digits at all others
pub record InShape (text : List ℕ) : Type 0 where
  pub first_sign : IsSign (byte text 0)
  pub first_point : byte text 7 ≡ 46
  pub second_sign : IsSign (byte text 10)
  pub second_point : byte text 18 ≡ 46
  pub slash : byte text 21 ≡ 47
  pub digits : (i : ℕ) → i < 22 → i ≢ 0 → i ≢ 7 → i ≢ 10 → i ≢ 18 → i ≢ 21 → (48 ≤ byte text i) × (byte text i ≤ 57)

-- minutes and seconds of the latitude, and of the longitude
pub record BelowSixty (text : List ℕ) : Type 0 where
  pub latitude_minutes : two text 3 < 60
  pub latitude_seconds : two text 5 < 60
  pub longitude_minutes : two text 14 < 60
  pub longitude_seconds : two text 16 < 60

-- a minus before zero
abbrev pub MinusZero : Signed → Type 0
MinusZero angle = (angle.negative ≡ true) × (angle.size ≡ 0)

-- degrees, minutes, seconds and hundredths of a second, in hundredths of an arcsecond
abbrev pub hundredths : ℕ → ℕ → ℕ → ℕ → ℕ
hundredths d m s h = ((d * 60 + m) * 60 + s) * 100 + h

-- the sign that a number is written with: zero has a plus
abbrev pub sign_for : ℤ → ℕ
sign_for (pos n) = 43
sign_for (negsuc n) = 45

-- a position's text: 22 bytes, which are read as it, and no other text is
pub record OneText (longitude latitude : ℤ) : Type 0 where
  pub text : List ℕ
  pub long : length text ≡ 22
  pub written : write_of longitude latitude 22 ≡ given text
  pub read : read_of text ≡ given (longitude, latitude)
  pub only : (other : List ℕ) → read_of other ≡ given (longitude, latitude) → other ≡ text

pub record Texts : Type 0 where
  -- the orders, refusal by refusal, and where each of them is given
  pub read_order_lem : (text : List ℕ) →
      read_order text
      ≡ bad_length (length text)
      ∷ bad_shape text
      ∷ bad_sixties (longitude_in text) (latitude_in text)
      ∷ bad_zero (signed_of (longitude_in text)) (signed_of (latitude_in text))
      ∷ bad_latitude (join_of (signed_of (latitude_in text)))
      ∷ bad_longitude (join_of (signed_of (longitude_in text)))
      ∷ []
  pub write_order_lem : (longitude latitude : ℤ) (room : ℕ) →
      write_order longitude latitude room ≡ bad_length room ∷ bad_latitude latitude ∷ bad_longitude longitude ∷ []
  pub by_12 : (n : ℕ) → ((bad_length n).applies ≡ true) ↔ (n ≢ 22)
  pub by_13 : (text : List ℕ) → length text ≡ 22 → ((bad_shape text).applies ≡ false) ↔ InShape text
  pub by_14 : (text : List ℕ) → length text ≡ 22 → ((bad_sixties (longitude_in text) (latitude_in text)).applies ≡ false) ↔ BelowSixty text
  pub by_15 : (longitude latitude : Signed) → ((bad_zero longitude latitude).applies ≡ true) ↔ (MinusZero latitude ⊎ MinusZero longitude)
  pub by_5 : (latitude : ℤ) → ((bad_latitude latitude).applies ≡ true) ↔ (32400000 < nat_abs latitude)
  pub by_4 : (longitude : ℤ) → ((bad_longitude longitude).applies ≡ true) ↔ (64800000 < nat_abs longitude)
  -- the angles that stand in a text, the latitude first
  pub latitude_is : (text : List ℕ) → length text ≡ 22 →
      signed_of (latitude_in text)
      ≡ record { negative = eqb (byte text 0) 45; size = hundredths (two text 1) (two text 3) (two text 5) (two text 8) }
  pub longitude_is : (text : List ℕ) → length text ≡ 22 →
      signed_of (longitude_in text)
      ≡ record { negative = eqb (byte text 10) 45; size = hundredths (three text 11) (two text 14) (two text 16) (two text 19) }
  -- the position of an accepted text is that of its angles
  pub read_is : (text : List ℕ) (longitude latitude : ℤ) → read_of text ≡ given (longitude, latitude) →
      (longitude ≡ join_of (signed_of (longitude_in text))) × (latitude ≡ join_of (signed_of (latitude_in text)))
  -- each accepted position has one text
  pub one_text : (longitude latitude : ℤ) → nat_abs longitude ≤ 64800000 → nat_abs latitude ≤ 32400000 → OneText longitude latitude
  -- position to text to position, and text to position to text
  pub position_returns : (longitude latitude : ℤ) (text : List ℕ) → write_of longitude latitude 22 ≡ given text →
      read_of text ≡ given (longitude, latitude)
  pub text_returns : (text : List ℕ) (longitude latitude : ℤ) → read_of text ≡ given (longitude, latitude) →
      write_of longitude latitude 22 ≡ given text
  -- two texts of one position are equal
  pub same_text : (text other : List ℕ) (longitude latitude : ℤ) → read_of text ≡ given (longitude, latitude) →
      read_of other ≡ given (longitude, latitude) → text ≡ other
  -- the signs of a text that is written
  pub signs : (longitude latitude : ℤ) (text : List ℕ) → write_of longitude latitude 22 ≡ given text →
      (byte text 0 ≡ sign_for latitude) × (byte text 10 ≡ sign_for longitude)
  -- a lent text holds what was written, and a refusal leaves it
  pub text_written : (text bytes : List ℕ) → or_else text (given bytes) ≡ bytes
  pub text_kept : (text : List ℕ) (n : ℕ) → or_else text (refused n) ≡ text
