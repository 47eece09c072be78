-- Believed: A line of a text, `key=value` and LF: a decimal, one of two words, a path. What a text begins with, and the text of each.
use Rattle.std.specs.Prelude.{ℕ, ◌-◌, List, [], ◌∷◌, ◌++◌, Bool, true, false, cond, length, drop, replicate, eqb, ltb, leb}
use Rattle.lists.specs.Bytes.{bytes}
use Rattle.decimals.specs.Decimals.{digits, Parsed, got, large, bad, parse}
use Rattle.register.specs.Limits.{human_kind, machine_kind, path_limit, path_byte_least, path_byte_greatest}

-- the byte that ends a line
abbrev pub line_feed : ℕ
line_feed = 10

-- what a text begins with: a line of the value, with what follows it; a line whose number is above its limit; or no such line
pub data Line (A : Type 0) : Type 0 where
  line : A → List ℕ → Line A
  beyond : Line A
  fault : Line A

-- whether a text begins with a key
unfoldable pub begins : List ℕ → List ℕ → Bool
begins [] t = true
begins (k ∷ key) [] = false
begins (k ∷ key) (b ∷ t) = let more = begins key t in cond (eqb k b) more false

-- a number is the line's where LF follows it
unfoldable pub ended : Parsed → Line ℕ
ended (got n []) = fault
ended (got n (b ∷ rest)) = cond (eqb b line_feed) (line n rest) fault
ended (large []) = fault
ended (large (b ∷ rest)) = cond (eqb b line_feed) beyond fault
ended bad = fault

-- the line of a key, '=' included, with a number up to the greatest
unfoldable pub parse_limited : List ℕ → ℕ → List ℕ → Line ℕ
parse_limited key greatest t = cond (begins key t) (ended (parse greatest (drop (length key) t))) fault

-- a number below the least is no such line
unfoldable pub at_least : ℕ → Line ℕ → Line ℕ
at_least least (line n rest) = cond (leb least n) (line n rest) fault
at_least least beyond = beyond
at_least least fault = fault

-- the line of a key with a number from the least to the greatest
abbrev pub parse_decimal : List ℕ → ℕ → ℕ → List ℕ → Line ℕ
parse_decimal key least greatest t = at_least least (parse_limited key greatest t)

-- its text
unfoldable pub decimal_line : List ℕ → ℕ → List ℕ
decimal_line key n = key ++ (digits n ++ (line_feed ∷ []))

-- a line of one of two words, each with its number
unfoldable pub parse_word : List ℕ → ℕ → List ℕ → ℕ → List ℕ → Line ℕ
parse_word first one second other t =
    cond (begins first t) (line one (drop (length first) t))
    (cond (begins second t) (line other (drop (length second) t)) fault)

-- its text
unfoldable pub word_line : List ℕ → ℕ → List ℕ → ℕ → List ℕ
word_line first one second n = cond (eqb n one) first second

-- the line of each kind
abbrev pub human_line : List ℕ
human_line = bytes "kind=human\n"

abbrev pub machine_line : List ℕ
machine_line = bytes "kind=machine\n"

-- an actor's kind
abbrev pub parse_kind : List ℕ → Line ℕ
parse_kind t = parse_word human_line human_kind machine_line machine_kind t

-- its text
abbrev pub kind_line : ℕ → List ℕ
kind_line k = word_line human_line human_kind machine_line k

-- what a step of a plan is: an action, or a whole plan
abbrev pub action_step : ℕ
action_step = 1

abbrev pub plan_step : ℕ
plan_step = 2

-- the line of each
abbrev pub action_step_line : List ℕ
action_step_line = bytes "step=action\n"

abbrev pub plan_step_line : List ℕ
plan_step_line = bytes "step=plan\n"

-- the line of a step
abbrev pub parse_step : List ℕ → Line ℕ
parse_step t = parse_word action_step_line action_step plan_step_line plan_step t

-- the key of a path
abbrev pub scope_key : List ℕ
scope_key = bytes "scope="

-- a path up to LF, behind the bytes of it so far: at most 64 bytes, each 0x21 to 0x7E
unfoldable pub path_on : List ℕ → List ℕ → Line (List ℕ)
path_on path [] = fault
path_on path (b ∷ t) =
    let more = path_on (path ++ (b ∷ [])) t in
    cond (eqb b line_feed) (line path t)
    (cond (ltb b path_byte_least) fault (cond (ltb path_byte_greatest b) fault (cond (ltb (length path) path_limit) more fault)))

-- the line of a path
unfoldable pub parse_scope : List ℕ → Line (List ℕ)
parse_scope t = cond (begins scope_key t) (path_on [] (drop (length scope_key) t)) fault

-- its text
unfoldable pub scope_line : List ℕ → List ℕ
scope_line path = scope_key ++ (path ++ (line_feed ∷ []))

-- the array that holds a path: zeros behind it
abbrev pub held_path : List ℕ → List ℕ
held_path p = p ++ replicate (path_limit - length p) 0
