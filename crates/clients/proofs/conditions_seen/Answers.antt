use Rattle.std.proofs.Common.{[], Ok, rules}
use Rattle.small_grammars.specs.Grammars.{conditions_grammar}
use Rattle.clients.proofs.Calls.{opened_stands, opened_short, back_stands, never}
use Rattle.clients.proofs.Conditions.{put_name, put_open, put_open_name, look_empty, look_name, look_open_name}
use Rattle.clients.proofs.conditions_seen.Goals as goal

pub returns-in_err-put : goal.returns-in_err-put
returns-in_err-put c =
    let o = c.open-reading.ensures in
    record {
      conditions = λ m l.
          let a = put_name _ _ _ c.put.ensures (opened_stands _ _ _ conditions_grammar o.opened o.grammar m l) in
          absurd (never _ _ _ a.0 c.in_err-put.was);
      short = λ n. absurd (opened_short _ _ o.opened n c.in_ok-empty.ensures.0);
    }

pub returns-in_err-take_back : goal.returns-in_err-take_back
returns-in_err-take_back c =
    let o = c.open-reading.ensures in
    record {
      conditions = λ m l.
          let a = put_name _ _ _ c.put.ensures (opened_stands _ _ _ conditions_grammar o.opened o.grammar m l) in
          let b = back_stands _ _ conditions_grammar [] 21 _ c.take_back.ensures a.1 in
          absurd (never _ _ _ b.0 c.in_err-take_back.was);
      short = λ n. absurd (opened_short _ _ o.opened n c.in_ok-empty.ensures.0);
    }

pub returns-in_err-put-2 : goal.returns-in_err-put-2
returns-in_err-put-2 c =
    let o = c.open-reading.ensures in
    record {
      conditions = λ m l.
          let a = put_name _ _ _ c.put.ensures (opened_stands _ _ _ conditions_grammar o.opened o.grammar m l) in
          let b = back_stands _ _ conditions_grammar [] 21 _ c.take_back.ensures a.1 in
          let d = put_open _ _ _ c.put-2.ensures b.1 in
          absurd (never _ _ _ d.0 c.in_err-put-2.was);
      short = λ n. absurd (opened_short _ _ o.opened n c.in_ok-empty.ensures.0);
    }

pub returns-in_err-put-3 : goal.returns-in_err-put-3
returns-in_err-put-3 c =
    let o = c.open-reading.ensures in
    record {
      conditions = λ m l.
          let a = put_name _ _ _ c.put.ensures (opened_stands _ _ _ conditions_grammar o.opened o.grammar m l) in
          let b = back_stands _ _ conditions_grammar [] 21 _ c.take_back.ensures a.1 in
          let d = put_open _ _ _ c.put-2.ensures b.1 in
          let e = put_open_name _ _ _ c.put-3.ensures d.1 in
          absurd (never _ _ _ e.0 c.in_err-put-3.was);
      short = λ n. absurd (opened_short _ _ o.opened n c.in_ok-empty.ensures.0);
    }

pub returns : goal.returns
returns c =
    let o = c.open-reading.ensures in
    record {
      conditions = λ m l.
          let s = opened_stands _ _ _ conditions_grammar o.opened o.grammar m l in
          let a = put_name _ _ _ c.put.ensures s in
          let b = back_stands _ _ conditions_grammar [] 21 _ c.take_back.ensures a.1 in
          let d = put_open _ _ _ c.put-2.ensures b.1 in
          let e = put_open_name _ _ _ c.put-3.ensures d.1 in
          let x = look_empty _ _ c.in_ok-empty.ensures (search rules) s in
          let y = look_name _ _ c.in_ok-name.ensures (search rules) a.1 in
          let z = look_open_name _ _ c.in_ok-open_name.ensures (search rules) e.1 in
          λ i. Ok record { empty = x i; name = y i; open_name = z i };
      short = λ n. absurd (opened_short _ _ o.opened n c.in_ok-empty.ensures.0);
    }
