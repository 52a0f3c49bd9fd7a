-- The refusals that faults of a right side are. Assumes nothing.
use Rattle.grammar.specs.declared.refusals.DraftRefusal.TheVariants.{LongRight}
use Rattle.grammar.specs.declared.refusals.FileRefusal.TheVariants.{Undeclared as NotDeclared}
use Rattle.grammar.specs.declared.refusals.Refusal.{Refusal}
use Rattle.grammar.specs.declared.refusals.Refusal.TheVariants.{Draft, File}
use Rattle.spellings.specs.declared.right.RightFault.{RightFault}
use Rattle.spellings.specs.declared.right.RightFault.TheVariants.{Undeclared, Long}

abbrev pub refusal : RightFault → Refusal
refusal Undeclared = File NotDeclared
refusal Long = Draft LongRight
