use Rattle.std.proofs.Common.{◌∙◌, ◌+◌, ◌&&◌, not, drop, refl, arith, eqb}
use Rattle.std.proofs.lemmas.Grind.{common_steps}
use Rattle.std.proofs.lemmas.List.{take_rest}
use Rattle.std.proofs.lemmas.Iterator.{YieldsList-from_slice}
use Rattle.std.proofs.lemmas.Iterator.Consumers.{YieldsList-from_enumerate}
use Rattle.std.proofs.lemmas.Iterator.Search.{any_from_yields_List}
use Rattle.std.specs.List.{list_any}
use Rattle.ports.specs.Port.{no_terminal}
use Rattle.terminals.proofs.Searches.{any_equal}
use Rattle.terminals.proofs.some_equal.Goals as goal

pub returns : goal.returns
returns c =
    any_from_yields_List (λ p. not (eqb p.1 no_terminal) && list_any (λ q. eqb q p.1) (drop (p.0 + 1) c.args.terminals)) _ _ _ c.any.ensures.ran
    (YieldsList-from_enumerate (YieldsList-from_slice c.args.terminals cc) cc) (λ x b q k. grind (arith, common_steps, take_rest))
    ∙ any_equal c.args.terminals c.args.terminals 0 refl
