-- The definitions of lines on small texts, yes and no, computed. The key `n=` is 110 and 61, and 48 to 57 are the digits. Assumes nothing.
use Rattle.std.proofs.Common.{◌≡◌, refl, true, false, [], ◌∷◌}
use Rattle.decimals.specs.Decimals.{digits_with, digits, digit_run, after, value, canonical, parse}
use Rattle.lists.specs.Bytes.{bytes}
use Rattle.refusals.specs.declared.Refusal.TheVariants.{Form, Count}
use Rattle.lines.specs.Lines.{line, beyond, fault, begins, ended, parse_limited, at_least, parse_decimal, decimal_line, parse_word, parse_kind, human_line, machine_line, path_on, parse_scope}
use Rattle.lines.specs.Reading.{going, failed, number, count, kind, read_form, closed}
use Rattle.lines.specs.Answers.{state_of, read_step}

-- a text that begins with `n=`, that ends within it, and that differs from it
begins_cases : (begins (110 ∷ 61 ∷ []) (110 ∷ 61 ∷ 55 ∷ []) ≡ true) × (begins (110 ∷ 61 ∷ []) (110 ∷ []) ≡ false) × (begins (110 ∷ 61 ∷ []) (61 ∷ 110 ∷ []) ≡ false)
unfolding begins
begins_cases = (refl, refl, refl)

-- `n=7` and LF is 7, with what follows it; so is `n=12` 12
decimal_yes :
    (parse_decimal (110 ∷ 61 ∷ []) 1 64 (110 ∷ 61 ∷ 55 ∷ 10 ∷ 120 ∷ []) ≡ line 7 (120 ∷ []))
    × (parse_decimal (110 ∷ 61 ∷ []) 1 64 (110 ∷ 61 ∷ 49 ∷ 50 ∷ 10 ∷ []) ≡ line 12 [])
unfolding begins parse_limited at_least ended parse canonical digit_run after value
decimal_yes = (refl, refl)

-- `n=65` is above the limit; `n=0` is below the least; `n=07`, `n=`, `n=7` without LF and `n=7 ` are no lines
decimal_no :
    (parse_decimal (110 ∷ 61 ∷ []) 1 64 (110 ∷ 61 ∷ 54 ∷ 53 ∷ 10 ∷ []) ≡ beyond)
    × (parse_decimal (110 ∷ 61 ∷ []) 1 64 (110 ∷ 61 ∷ 48 ∷ 10 ∷ []) ≡ fault)
    × (parse_decimal (110 ∷ 61 ∷ []) 1 64 (110 ∷ 61 ∷ 48 ∷ 55 ∷ 10 ∷ []) ≡ fault)
    × (parse_decimal (110 ∷ 61 ∷ []) 1 64 (110 ∷ 61 ∷ 10 ∷ []) ≡ fault)
    × (parse_decimal (110 ∷ 61 ∷ []) 1 64 (110 ∷ 61 ∷ 55 ∷ []) ≡ fault)
    × (parse_decimal (110 ∷ 61 ∷ []) 1 64 (110 ∷ 61 ∷ 55 ∷ 32 ∷ 10 ∷ []) ≡ fault)
unfolding begins parse_limited at_least ended parse canonical digit_run after value
decimal_no = (refl, refl, refl, refl, refl, refl)

decimal_line_cases : (decimal_line (110 ∷ 61 ∷ []) 0 ≡ 110 ∷ 61 ∷ 48 ∷ 10 ∷ []) × (decimal_line (110 ∷ 61 ∷ []) 65 ≡ 110 ∷ 61 ∷ 54 ∷ 53 ∷ 10 ∷ [])
unfolding decimal_line digits digits_with
decimal_line_cases = (refl, refl)

-- the line of each kind, and a text that is neither
kind_cases : (parse_kind human_line ≡ line 1 []) × (parse_kind machine_line ≡ line 2 []) × (parse_kind (107 ∷ 105 ∷ 110 ∷ 100 ∷ 61 ∷ 10 ∷ []) ≡ fault)
unfolding parse_word begins
kind_cases = (refl, refl, refl)

-- the line of each step; with another word, in capitals or without LF it is none; nor is what follows read before a failure
step_cases :
    (read_step (going (bytes "step=action\nnow") 3) ≡ record { value = 1; state = going (bytes "now") 4 })
    × (read_step (going (bytes "step=plan\n") 3) ≡ record { value = 2; state = going [] 4 })
    × (read_step (going (bytes "step=actions\n") 3) ≡ record { value = 0; state = failed Form 3 })
    × (read_step (going (bytes "step=Plan\n") 3) ≡ record { value = 0; state = failed Form 3 })
    × (read_step (going (bytes "step=plan") 3) ≡ record { value = 0; state = failed Form 3 })
    × (read_step (failed Count 2) ≡ record { value = 0; state = failed Count 2 })
unfolding parse_word begins
step_cases = (refl, refl, refl, refl, refl, refl)

-- `scope=a/` and the empty path are paths; a space, a byte above 0x7E and a missing LF make none
scope_cases :
    (parse_scope (115 ∷ 99 ∷ 111 ∷ 112 ∷ 101 ∷ 61 ∷ 97 ∷ 47 ∷ 10 ∷ []) ≡ line (97 ∷ 47 ∷ []) [])
    × (parse_scope (115 ∷ 99 ∷ 111 ∷ 112 ∷ 101 ∷ 61 ∷ 10 ∷ 120 ∷ []) ≡ line [] (120 ∷ []))
    × (parse_scope (115 ∷ 99 ∷ 111 ∷ 112 ∷ 101 ∷ 61 ∷ 32 ∷ 10 ∷ []) ≡ fault)
    × (parse_scope (115 ∷ 99 ∷ 111 ∷ 112 ∷ 101 ∷ 61 ∷ 127 ∷ 10 ∷ []) ≡ fault)
    × (parse_scope (115 ∷ 99 ∷ 111 ∷ 112 ∷ 101 ∷ 61 ∷ 97 ∷ []) ≡ fault)
unfolding parse_scope path_on begins
scope_cases = (refl, refl, refl, refl, refl)

-- a line read leads to the next; one above its limit fails as a count with the refusal of counts and as a number with that of the form; nothing is read behind a failure
read_form_cases :
    (read_form (count (110 ∷ 61 ∷ []) 64) (going (110 ∷ 61 ∷ 55 ∷ 10 ∷ []) 3) ≡ record { value = 7; state = going [] 4 })
    × (read_form (count (110 ∷ 61 ∷ []) 64) (going (110 ∷ 61 ∷ 54 ∷ 53 ∷ 10 ∷ []) 3) ≡ record { value = 0; state = failed Count 3 })
    × (read_form (number (110 ∷ 61 ∷ []) 1 64) (going (110 ∷ 61 ∷ 54 ∷ 53 ∷ 10 ∷ []) 3) ≡ record { value = 0; state = failed Form 3 })
    × (read_form kind (failed Count 3) ≡ record { value = 0; state = failed Count 3 })
unfolding begins parse_limited at_least ended parse canonical digit_run after value
read_form_cases = (refl, refl, refl, refl)

-- trailing bytes fail as the next line
closed_cases : (closed (going [] 5) ≡ going [] 5) × (closed (going (10 ∷ []) 5) ≡ failed Form 5) × (closed (failed Count 3) ≡ failed Count 3)
closed_cases = (refl, refl, refl)

-- a cursor behind one line; past the text; with more lines than bytes behind it; not on
state_cases :
    (state_of (10 ∷ 120 ∷ []) (record { at = 1; line = 1; on = true; refusal = Form }) ≡ going (120 ∷ []) 2)
    × (state_of (10 ∷ 120 ∷ []) (record { at = 3; line = 1; on = true; refusal = Form }) ≡ failed Form 1)
    × (state_of (10 ∷ 120 ∷ []) (record { at = 1; line = 2; on = true; refusal = Form }) ≡ failed Form 2)
    × (state_of (10 ∷ 120 ∷ []) (record { at = 1; line = 2; on = false; refusal = Count }) ≡ failed Count 2)
state_cases = (refl, refl, refl, refl)
