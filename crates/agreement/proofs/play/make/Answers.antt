use Rattle.std.proofs.Common.{refl}
use Rattle.agreement.proofs.Playing.{put_made, back_made, look_made, list_made, score_made}
use Rattle.agreement.proofs.play.make.Goals as goal

pub returns-in-Put : goal.returns-in-Put
returns-in-Put g c = put_made _ _ _ _ _ _ c.in-Put.is c.put.ensures

pub returns-in-TakeBack : goal.returns-in-TakeBack
returns-in-TakeBack g c = back_made _ _ _ _ _ c.in-TakeBack.is c.take_back.ensures

pub returns-in-Look : goal.returns-in-Look
returns-in-Look g c = look_made _ _ _ _ c.in-Look.is c.look.ensures

pub returns-in-List : goal.returns-in-List
returns-in-List g c = list_made _ _ _ _ _ c.in-List.is (c.list.ensures, refl)

pub returns-in-Score : goal.returns-in-Score
returns-in-Score g c = score_made _ _ _ _ _ c.in-Score.is (c.score.ensures.scored, refl)
