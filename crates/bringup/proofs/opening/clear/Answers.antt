use Rattle.std.proofs.Common.{refl, rules}
use Rattle.std.proofs.lemmas.Result.{on_ok_weaker}
use Rattle.std.proofs.lemmas.Iterator.{YieldsList-from_range, YieldsList-from_map}
use Rattle.std.proofs.lemmas.Iterator.Adapters.{items_from_extend}
use Rattle.line.specs.declared.command.Command.TheVariants.{Write}
use Rattle.bringup.specs.Opening.{unit_half_zeros}
use Rattle.bringup.proofs.opening.clear.Goals as goal

pub returns : goal.returns
unfolding unit_half_zeros
returns c =
    on_ok_weaker c.extend.result (λ h. h.0)
    (items_from_extend c.extend.result c.extend.ensures.ran
    (YieldsList-from_map _ (λ a. Write a 0) (YieldsList-from_range 64 128 64 c.map.ensures.source refl) c.map.ensures.closure (λ x r q k. search rules)))
