use Rattle.grammar.specs.Derivations.{Leads}
use Rattle.grammar.specs.Model.{productions}
use Rattle.bitset.specs.Relations.{Holds}
use Rattle.derivations.proofs.Closing.{closure_iff}
use Rattle.derivations.proofs.leads_to_itself.Goals as goal

pub returns : goal.returns
returns c =
    let same = closure_iff (Holds c.leads-rows.result) (Leads (productions c.args.productions.now)) c.leads-rows.ensures in
    record {
      yes = λ e. let found = c.has_loop.ensures.yes e in (found.0, (same found.0 found.0).0 ((c.close.ensures found.0 found.0).0 found.1));
      no = λ e A h. c.has_loop.ensures.no e A ((c.close.ensures A A).1 ((same A A).1 h));
    }
