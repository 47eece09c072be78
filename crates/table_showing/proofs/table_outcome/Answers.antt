-- `table_showing::table_outcome` meets its contract: the first test that is not passed decides (Telling). Assumes nothing.
use Rattle.std.proofs.Common.{sym, ◌∙◌}
use Rattle.table_showing.proofs.Telling.{told_unsound, told_actor, told_moment, told_absent, told_accepted}
use Rattle.table_showing.proofs.table_outcome.Goals as goal

pub returns-then-not-sound : goal.returns-then-not-sound
returns-then-not-sound c =
    let a = c.args in
    told_unsound a.sound a.names.now a.n a.actor a.moment (c.if-not-sound.true)

pub returns-then-actor-gt-ID_LIMIT : goal.returns-then-actor-gt-ID_LIMIT
returns-then-actor-gt-ID_LIMIT c =
    let a = c.args in
    told_actor a.sound a.names.now a.n a.actor a.moment (c.if-not-sound.false) c.if-actor-gt-ID_LIMIT.true

pub returns-then-moment-ge-MOMENT_END : goal.returns-then-moment-ge-MOMENT_END
returns-then-moment-ge-MOMENT_END c =
    let a = c.args in
    told_moment a.sound a.names.now a.n a.actor a.moment (c.if-not-sound.false) c.if-actor-gt-ID_LIMIT.false c.if-moment-ge-MOMENT_END.true

pub returns-then-not-is_among : goal.returns-then-not-is_among
returns-then-not-is_among c =
    let a = c.args in
    told_absent a.sound a.names.now a.n a.actor a.moment (c.if-not-sound.false) c.if-actor-gt-ID_LIMIT.false c.if-moment-ge-MOMENT_END.false
    (sym c.is_among.ensures ∙ c.if-not-is_among.true)

pub returns : goal.returns
returns c =
    let a = c.args in
    told_accepted a.sound a.names.now a.n a.actor a.moment (c.if-not-sound.false) c.if-actor-gt-ID_LIMIT.false c.if-moment-ge-MOMENT_END.false
    (sym c.is_among.ensures ∙ c.if-not-is_among.false)
