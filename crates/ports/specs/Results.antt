-- What a Result comes to: one function of its value, another of its error.
use Rattle.std.specs.Prelude.{Ok, Err, Result}

abbrev pub by_result : {A E X : Type 0} → (A → X) → (E → X) → Result A E → X
by_result f g (Ok a) = f a
by_result f g (Err e) = g e
