use Rattle.std.proofs.Common.{arith}
use Rattle.files.specs.Model.{model}
use Rattle.engine.proofs.Bounds.{line_place, line_size}
use Rattle.engine.proofs.Reading.{opens, ready, refused_line, put_line}
use Rattle.engine.proofs.read_by.Goals as goal

pub write_listing-requires : goal.write_listing-requires
write_listing-requires c =
    let o = opens _ c.seal-grammar.result c.open-reading.result (model c.args.book).draft (omega arith) c.open-reading.ensures.opened c.open-reading.ensures.grammar c.seal-grammar.ensures in
    let x = ready o c.in-Ok.ensures.kinds in
    record { small = line_size {q = c.put_line.new.reading} c.in-Ok.ensures.put; long = x.long; marks = x.marks }

pub pack-requires : goal.pack-requires
pack-requires c = line_place c.in-Err.ensures.put

pub returns-in-Ok : goal.returns-in-Ok
returns-in-Ok c =
    let o = opens _ c.seal-grammar.result c.open-reading.result (model c.args.book).draft (omega arith) c.open-reading.ensures.opened c.open-reading.ensures.grammar c.seal-grammar.ensures in
    put_line (model c.args.book) c.args.line.now c.args.output.now c.open-reading.result c.put_line.new.reading o c.in-Ok.field-0 c.write_listing.result c.write_listing.new.output c.in-Ok.ensures.put c.write_listing.ensures

pub returns-in-Err : goal.returns-in-Err
returns-in-Err c =
    let o = opens _ c.seal-grammar.result c.open-reading.result (model c.args.book).draft (omega arith) c.open-reading.ensures.opened c.open-reading.ensures.grammar c.seal-grammar.ensures in
    refused_line (model c.args.book) c.args.line.now c.args.output.now c.open-reading.result c.put_line.new.reading o c.in-Err.fault.refusal c.in-Err.fault.place c.pack.result c.number.result c.in-Err.ensures.put c.pack.ensures c.number.ensures
