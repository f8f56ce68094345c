use Rattle.std.proofs.Common.{◌≡◌, ◌∙◌, length, rules, tests, arith, refl, ap}
use Rattle.std.specs.Option.{option_map}
use Rattle.std.proofs.lemmas.Iterator.{YieldsList-from_slice, YieldsList-from_range, YieldsList-from_zip}
use Rattle.std.proofs.lemmas.Iterator.Search.{find_from_yields_List}
use Rattle.turning.proofs.Searches.{find_lowest}
use Rattle.turning.proofs.lowest.Goals as goal

pub returns : goal.returns
returns g c = record {
  by = λ wants t.
      let all : length c.args.table.now.ports ≡ 32 = omega arith in
      let found =
      find_from_yields_List (λ p. wants p.0 p.1) c.find.new.self _ c.find.result c.find.ensures.ran
      (YieldsList-from_zip (YieldsList-from_range 0 32 32 (cc) refl) (YieldsList-from_slice c.args.table.now.ports cc)) (λ x b q k. search (rules, tests, t)) in
      let number : c.map.result ≡ option_map (λ p. p.0) (option_map (λ p. (p.0, p.1.now)) c.find.result) = search rules in
      number ∙ ap (option_map (λ p. p.0)) found ∙ rw all at (find_lowest wants 0 c.args.table.now.ports);
}
