-- A text, a colon behind it, and the word behind that.
use Rattle.std.proofs.Common.{refl, sym, ap, ◌∙◌, arith, drop}
use Rattle.json_tokens.specs.Tokens.{tokens}
use Rattle.json_rules.specs.Members.{take_set}
use Rattle.json_reading.proofs.FlagSettings.{setting_valued, setting_unvalued, setting_nameless, setting_from}
use Rattle.json_reading.proofs.settings.read_setting.Goals as goal

pub returns-in_ok-next-in-Text : goal.returns-in_ok-next-in-Text
returns-in_ok-next-in-Text c =
    let a = c.args in
    let name = c.in-Text.ensures in
    let behind = c.in_ok-next-in-Text.ensures in
    let flag = c.flag_place-flag in
    setting_from a.s.now a.at c.in_ok-next-in-Text.next c.read_word.result _ _ (omega (arith, behind.1))
    (setting_valued _ _ _ name.0 _ behind.0 ∙ ap (λ i. take_set i (tokens (drop c.in_ok-next-in-Text.next a.s.now))) (sym flag.ensures)) c.read_word.ensures

pub returns-in_err-next-in-Text : goal.returns-in_err-next-in-Text
returns-in_err-next-in-Text c =
    let name = c.in-Text.ensures in
    rw c.from_residual.ensures (setting_unvalued _ _ _ name.0 c.in_err-next-in-Text.ensures)

pub returns-in-Mark : goal.returns-in-Mark
returns-in-Mark c = setting_nameless c.in-Mark.ensures.0 refl

pub returns-in-End : goal.returns-in-End
returns-in-End c = setting_nameless c.in-End.ensures refl

pub returns-in-Bad : goal.returns-in-Bad
returns-in-Bad c = setting_nameless c.in-Bad.ensures refl
