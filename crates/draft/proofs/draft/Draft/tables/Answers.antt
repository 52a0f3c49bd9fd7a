use Rattle.std.proofs.Common.{subst}
use Rattle.tables.specs.Meaning.{Means}
use Rattle.draft.proofs.Sealing.{handed, formed, numbers}
use Rattle.draft.proofs.draft.Draft.tables.Goals as goal

pub build-requires : goal.build-requires
build-requires c =
    record {
      formed = formed c.args.self.now _ _ c.productions.ensures c.rules.ensures.rules;
      numbers = numbers c.args.self.now _ c.rules.ensures.numbers;
    }

pub returns : goal.returns
returns c = subst (Means c.build.result) (handed c.args.self.now _ _ c.productions.ensures c.rules.ensures.rules) c.build.ensures
