use Rattle.std.proofs.Common.{◌∙◌, rules, tests, eqb}
use Rattle.std.proofs.lemmas.Iterator.{YieldsList-from_slice}
use Rattle.std.proofs.lemmas.Iterator.Search.{all_from_yields_List}
use Rattle.ports.specs.Port.{no_terminal}
use Rattle.terminals.proofs.Searches.{all_none}
use Rattle.terminals.proofs.none_configured.Goals as goal

pub returns : goal.returns
returns c =
    all_from_yields_List (λ t. eqb t no_terminal) _ _ _ c.all.ensures.ran (YieldsList-from_slice c.args.terminals cc) (λ x b q k. search (rules, tests))
    ∙ all_none c.args.terminals
