-- The spelled grammar that a spelled draft is. Assumes nothing.
use Rattle.draft.specs.Model.{model as grammar_of}
use Rattle.file_model.specs.Spelled.{Spelled}
use Rattle.spellings.specs.Model.{words}
use Rattle.files.specs.declared.spelled.SpelledDraft.{SpelledDraft}

-- the draft's grammar with the spellings
abbrev pub model : SpelledDraft → Spelled
model s = record { draft = grammar_of s.draft; spellings = words s.spellings }
