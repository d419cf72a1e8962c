-- A part of a text, put number by number.
use mathlib.Core.Path.{◌≡◌, refl, ◌∙◌}
use mathlib.Core.List.{List, ◌++◌}
use Prim.Native.Nat.{ℕ, ◌+◌, ◌-◌, ◌≤◌}
use native.Mathlib.Omega.{arith}
use lib.ListN.{length, take, drop, set, length-set}
use Rattle.digits.specs.Digits.{last_digits}
use Rattle.digits.specs.Put.{Put}
use Rattle.digits.proofs.Puts.{put_byte, put_digits, put_twice, put_long, put_all}
use Rattle.angle.specs.declared.sexagesimal.Sexagesimal.{Sexagesimal}
use Rattle.shape.specs.Shape.{point, slash, size}
use Rattle.iso6709.specs.Part.{sign_of, part_of}
use Rattle.iso6709.specs.Answer.{both_of}

-- a piece put from a place on to another, and one that is filled with digits
abbrev over : List ℕ → ℕ → ℕ → List ℕ → List ℕ
over l at end piece = take at l ++ (piece ++ drop (end - at) (drop at l))

abbrev Filled : List ℕ → ℕ → ℕ → List ℕ → ℕ → Type 0
Filled l at end piece n = piece ≡ last_digits (length (take (end - at) (drop at l))) n

digits_over : (l piece : List ℕ) (at end count n : ℕ) → end ≡ at + count → end ≤ length l → Filled l at end piece n →
    Put l at (last_digits count n) end (over l at end piece)
digits_over l piece at end count n e h p = rw e (put_digits l piece at count n (rw e at h) (rw e at p))

-- the sign, the degrees, minutes, seconds, the point and the decimals of a part
module _ (l : List ℕ) (at width sign : ℕ) (angle : Sexagesimal) (room : at + 1 + width + 7 ≤ length l) where
  abbrev m : ℕ
  m = at + 1 + width

  abbrev l₀ : List ℕ
  l₀ = set l at sign

  long₀ : length l₀ ≡ length l
  long₀ = length-set l at sign

  module _ (p₁ : List ℕ) (degrees : Filled l₀ (at + 1) m p₁ angle.degrees) where
    abbrev l₁ : List ℕ
    l₁ = over l₀ (at + 1) m p₁

    put₁ : Put l₀ (at + 1) (last_digits width angle.degrees) m l₁
    put₁ = digits_over l₀ p₁ (at + 1) m width angle.degrees refl (omega (arith, long₀)) degrees

    pub long₁ : length l₁ ≡ length l
    long₁ = put_long put₁ (omega (arith, long₀)) ∙ long₀

    module _ (p₂ : List ℕ) (minutes : Filled l₁ m (m + 2) p₂ angle.minutes) where
      abbrev l₂ : List ℕ
      l₂ = over l₁ m (m + 2) p₂

      put₂ : Put l₁ m (last_digits 2 angle.minutes) (m + 2) l₂
      put₂ = digits_over l₁ p₂ m (m + 2) 2 angle.minutes refl (omega (arith, long₁)) minutes

      pub long₂ : length l₂ ≡ length l
      long₂ = put_long put₂ (omega (arith, long₁)) ∙ long₁

      module _ (p₃ : List ℕ) (seconds : Filled l₂ (m + 2) (m + 4) p₃ angle.seconds) where
        abbrev l₃ : List ℕ
        l₃ = over l₂ (m + 2) (m + 4) p₃

        put₃ : Put l₂ (m + 2) (last_digits 2 angle.seconds) (m + 4) l₃
        put₃ = digits_over l₂ p₃ (m + 2) (m + 4) 2 angle.seconds (omega arith) (omega (arith, long₂)) seconds

        long₃ : length l₃ ≡ length l
        long₃ = put_long put₃ (omega (arith, long₂)) ∙ long₂

        abbrev l₄ : List ℕ
        l₄ = set l₃ (m + 4) point

        pub part_put : (p₅ : List ℕ) → Filled l₄ (m + 5) (m + 7) p₅ angle.hundredths → sign ≡ sign_of angle.negative →
            Put l at (part_of width angle) (m + 7) (over l₄ (m + 5) (m + 7) p₅)
        unfolding part_of
        part_put p₅ decimals e =
            let long₄ = length-set l₃ (m + 4) point ∙ long₃ in
            let put₅ = digits_over l₄ p₅ (m + 5) (m + 7) 2 angle.hundredths (omega arith) (omega (arith, long₄)) decimals in
            let n : m + 4 + 1 ≡ m + 5 = omega arith in
            let put₄ = rw n at (put_byte l₃ (m + 4) point (omega (arith, long₃))) in
            rw (← e)
            (put_twice (omega arith) (put_byte l at sign (omega arith))
            (put_twice (omega (arith, long₀)) put₁
            (put_twice (omega (arith, long₁)) put₂
            (put_twice (omega (arith, long₂)) put₃ (put_twice (omega (arith, long₃)) put₄ put₅)))))

-- both parts and the slash behind them
module _ (l l₁ : List ℕ) (latitude : Sexagesimal) (long : length l ≡ size) (first : Put l 0 (part_of 2 latitude) 10 l₁) where
  pub long_first : length l₁ ≡ size
  long_first = put_long first (omega arith) ∙ long

  module _ (l₂ : List ℕ) (longitude : Sexagesimal) (second : Put l₁ 10 (part_of 3 longitude) 21 l₂) where
    pub long_second : length l₂ ≡ size
    long_second = put_long second (omega (arith, long_first)) ∙ long_first

    pub both_put : set l₂ 21 slash ≡ both_of longitude latitude
    unfolding both_of
    both_put =
        let p = put_twice (omega (arith, long_first)) second (put_byte l₂ 21 slash (omega (arith, long_second))) in
        put_all (put_twice (omega arith) first p) long
