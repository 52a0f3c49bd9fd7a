use Rattle.walk.proofs.line_buffer.LineBuffer.take.Goals as goal

pub returns : goal.returns
returns c =
    let cut = c.in-Some.ensures in
    (c.in-Some.line.now, record { free = cut.0; is = cut.1 }, c.extend-2.ensures)
