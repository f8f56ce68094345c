use Rattle.std.proofs.Common.{◌≡◌, ◌∙◌, ◌&&◌, length, rules, tests, eqb, ne_eqb, arith}
use Rattle.std.proofs.lemmas.Iterator.{YieldsList-from_slice, YieldsList-from_zip}
use Rattle.std.proofs.lemmas.Iterator.Search.{any_from_yields_List}
use Rattle.ports.specs.Terminals.{has_bit}
use Rattle.terminals.proofs.Searches.{halves, any_among}
use Rattle.terminals.proofs.Terminals.is_online.Goals as goal

pub returns-then-address : goal.returns-then-address
returns-then-address c =
    let five : length c.args.self.addresses ≡ 5 = omega arith in
    rw (ne_eqb _ _ c.if-address.true)
    (any_from_yields_List (λ p. eqb p.0 c.args.address && has_bit c.args.self.online p.1) c.any.new.self _ _ c.any.ensures.ran
    (YieldsList-from_zip (YieldsList-from_slice c.args.self.addresses cc) (YieldsList-from_slice (halves 0x80 5) cc)) (λ x b q k. search (rules, tests))
    ∙ rw five at (any_among 0x80 c.args.self.addresses c.args.self.online c.args.address))
