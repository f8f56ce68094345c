use Rattle.std.proofs.Common.{rules}
use Rattle.std.proofs.lemmas.Result.{on_ok_weaker}
use Rattle.std.proofs.lemmas.Iterator.{YieldsList-from_slice, YieldsList-from_zip, YieldsList-from_map}
use Rattle.std.proofs.lemmas.Iterator.Adapters.{items_from_extend}
use Rattle.line.specs.declared.command.Command.TheVariants.{Write}
use Rattle.bringup.proofs.opening.write_row.Goals as goal

pub returns : goal.returns
returns c =
    on_ok_weaker c.extend.result (λ h. h.0)
    (items_from_extend c.extend.result c.extend.ensures.ran
    (YieldsList-from_map _ (λ p. Write p.0 p.1) (YieldsList-from_zip (YieldsList-from_slice c.args.places.now (cc)) (YieldsList-from_slice c.args.bytes.now (cc))) c.map.ensures.closure (λ x r q k. search rules)))
