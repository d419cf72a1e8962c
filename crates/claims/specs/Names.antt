-- The names of kinds and of refusals stand for the documents' numbers, and a refusal prints its own.
use Rattle.std.specs.Prelude.{◌≡◌, ℕ, [], ◌∷◌, ◌++◌, map}
use Rattle.refusal.specs.declared.Refusal.TheVariants.{Kind, Float, Central, Longitude, Latitude, North, East, Length, Mark, Form, Full, TextLength, TextShape, Sixties, MinusZero, Counts, West, South, TooLong, Rooms}
use Rattle.refusal.specs.Number.{number_of as refusal_number, printed_of as refusal_printed}
use Rattle.parallel.specs.declared.kind.Kind.TheVariants.{PlateCarree, ApianII, PutninsP1, WagnerVI, EckertIII, KavraiskyVII, PutninsP3, PutninsP3Prime, PutninsP5, PutninsP5Prime, Sinusoidal, EckertV}
use Rattle.parallel.specs.Kind.{number_of as kind_number}
use Rattle.claims.specs.Printing.{refused_text}

pub record Names : Type 0 where
  pub kinds :
      map kind_number (PlateCarree ∷ ApianII ∷ PutninsP1 ∷ WagnerVI ∷ EckertIII ∷ KavraiskyVII ∷ PutninsP3 ∷ PutninsP3Prime ∷ PutninsP5 ∷ PutninsP5Prime ∷ Sinusoidal ∷ EckertV ∷ [])
      ≡ 1 ∷ 2 ∷ 3 ∷ 4 ∷ 5 ∷ 6 ∷ 7 ∷ 8 ∷ 9 ∷ 10 ∷ 11 ∷ 12 ∷ []
  pub calls : map refusal_number (Kind ∷ Float ∷ Central ∷ Longitude ∷ Latitude ∷ []) ≡ 1 ∷ 2 ∷ 3 ∷ 4 ∷ 5 ∷ []
  pub edges : map refusal_number (North ∷ East ∷ West ∷ South ∷ []) ≡ 6 ∷ 7 ∷ 17 ∷ 18 ∷ []
  pub records : map refusal_number (Length ∷ Mark ∷ Form ∷ Full ∷ Counts ∷ []) ≡ 8 ∷ 9 ∷ 10 ∷ 11 ∷ 16 ∷ []
  pub texts : map refusal_number (TextLength ∷ TextShape ∷ Sixties ∷ MinusZero ∷ []) ≡ 12 ∷ 13 ∷ 14 ∷ 15 ∷ []
  pub torn_files : map refusal_number (TooLong ∷ Rooms ∷ []) ≡ 23 ∷ 24 ∷ []
  -- "refused 7" and "refused 24", by the word that `convert` prints
  pub printed_7 : refusal_printed East ≡ refused_text ++ (55 ∷ [])
  pub printed_24 : refusal_printed Rooms ≡ refused_text ++ (50 ∷ 52 ∷ [])
