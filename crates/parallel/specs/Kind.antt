-- The numbers of the kinds.
use Rattle.std.specs.Prelude.{◌≡◌, [], ◌∷◌, ℕ, Result}
use Rattle.refusal.specs.declared.Refusal.{Refusal}
use Rattle.refusal.specs.Outcome.{on_given, unless}
use Rattle.refusal.specs.Number.{meaning}
use Rattle.parallel.specs.declared.kind.Kind.{Kind}
use Rattle.parallel.specs.declared.kind.Kind.TheVariants.{PlateCarree, ApianII, PutninsP1, WagnerVI, EckertIII, KavraiskyVII, PutninsP3, PutninsP3Prime, PutninsP5, PutninsP5Prime, Sinusoidal, EckertV}
use Rattle.parallel.specs.Refusal.{bad_kind}

abbrev pub number_of : Kind → ℕ
number_of PlateCarree = 1
number_of ApianII = 2
number_of PutninsP1 = 3
number_of WagnerVI = 4
number_of EckertIII = 5
number_of KavraiskyVII = 6
number_of PutninsP3 = 7
number_of PutninsP3Prime = 8
number_of PutninsP5 = 9
number_of PutninsP5Prime = 10
number_of Sinusoidal = 11
number_of EckertV = 12

-- what a number is answered: the kind that has it, or 1
abbrev pub KindOf : ℕ → Result Kind Refusal → Type 0
KindOf number answer = on_given number_of (meaning answer) ≡ unless (bad_kind number ∷ []) number
