use Rattle.std.proofs.Common.{◌≡◌, ℕ, ◌-◌, take, ap, ◌∙◌, arith}
use Rattle.reading.specs.Readings.{words, grammar_of}
use Rattle.engine.specs.Answers.{packed, written}
use Rattle.engine.proofs.Listing.{listed_whole, listed_cut, listed_none}
use Rattle.engine.proofs.list_through.Goals as goal

pub returns-in-Ok : goal.returns-in-Ok
returns-in-Ok c =
    let r = c.args.reading.now in
    let whole-count : c.in-Ok.count - 0 ≡ c.in-Ok.count = omega arith in
    listed_whole (grammar_of r) (words r) c.args.size c.args.records.now c.list.new.records c.args.output.now c.requires.space c.in-Ok.count c.pack.result c.write_records.new.output (c.in-Ok.ensures.listed c.requires.long c.requires.marks) c.pack.ensures (c.write_records.ensures ∙ ap (λ n. written (take n c.list.new.records) c.args.output.now) whole-count)

pub returns-in-ShortListing : goal.returns-in-ShortListing
returns-in-ShortListing c =
    let r = c.args.reading.now in
    listed_cut (grammar_of r) (words r) c.args.size c.args.records.now c.list.new.records c.args.output.now c.requires.space c.in-Err.refusal c.number.result c.pack-in-ShortListing.result c.write_records-in-ShortListing.new.output c.in-ShortListing.is (c.in-Err.ensures.listed c.requires.long c.requires.marks) c.number.ensures c.pack-in-ShortListing.ensures c.write_records-in-ShortListing.ensures

pub returns-in_default : goal.returns-in_default
returns-in_default c =
    let r = c.args.reading.now in
    listed_none (grammar_of r) (words r) c.args.size c.args.records.now c.list.new.records c.args.output.now c.requires.space c.in-Err.refusal c.pack-in_default.result c.in_default.not-ShortListing (c.in-Err.ensures.listed c.requires.long c.requires.marks) (c.pack-in_default.ensures ∙ ap (λ (n : ℕ). packed n c.args.size) c.number-in_default.ensures)
