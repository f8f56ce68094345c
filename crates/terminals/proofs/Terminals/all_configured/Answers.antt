use Rattle.std.proofs.Common.{◌≡◌, ◌∙◌, ◌&&◌, not, length, rules, tests, eqb, arith}
use Rattle.std.proofs.lemmas.Iterator.{YieldsList-from_slice, YieldsList-from_zip}
use Rattle.std.proofs.lemmas.Iterator.Search.{all_from_yields_List}
use Rattle.ports.specs.Port.{no_terminal}
use Rattle.ports.specs.Terminals.{has_bit}
use Rattle.terminals.proofs.Searches.{halves, all_all_configured}
use Rattle.terminals.proofs.Terminals.all_configured.Goals as goal

pub returns : goal.returns
returns c =
    let five : length c.args.self.addresses ≡ 5 = omega arith in
    all_from_yields_List (λ p. not (has_bit c.args.set p.1 && eqb p.0 no_terminal)) c.all.new.self _ _ c.all.ensures.ran
    (YieldsList-from_zip (YieldsList-from_slice c.args.self.addresses cc) (YieldsList-from_slice (halves 0x80 5) cc)) (λ x b q k. search (rules, tests))
    ∙ rw five at (all_all_configured 0x80 c.args.self.addresses c.args.set)
