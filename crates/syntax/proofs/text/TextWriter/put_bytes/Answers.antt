use Rattle.std.proofs.Common.{◌-◌, length, take, refl, ◌∙◌, arith}
use Rattle.std.proofs.lemmas.List.{length-take-le}
use Rattle.syntax.proofs.Writes.{overlaid_front, part_copied}
use Rattle.syntax.proofs.text.TextWriter.put_bytes.Goals as goal

pub returns-then-bytes-room : goal.returns-then-bytes-room
returns-then-bytes-room c =
    let out = c.args.self.now.out.now in
    let at = c.args.self.now.end in
    let bytes = c.args.bytes.now in
    let room = length out - at in
    let within = c.args.self.now.within in
    let n = length-take-le room bytes (omega arith) in
    let copied = part_copied out at room c.copy_from_slice.new.self (take room bytes) c.copy_from_slice.ensures.after (omega arith) (omega arith) in
    (refl, record { lent = refl; text = copied ∙ overlaid_front out at bytes room (omega arith) (omega arith) }, refl, omega arith)

pub returns : goal.returns
returns c =
    let out = c.args.self.now.out.now in
    let within = c.args.self.now.within in (
      record { lent = refl; text = part_copied out c.args.self.now.end _ c.copy_from_slice-2.new.self c.args.bytes.now c.copy_from_slice-2.ensures.after (omega arith) (omega arith) },
      refl,
    )
