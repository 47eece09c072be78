-- Where a reading stands behind each of the code's answers: as it was, behind the line, or failed at it. Assumes nothing.
use Rattle.std.proofs.Common.{ℕ, ◌+◌, ◌≤◌, ◌<◌, Some, None, ◌≡◌, refl, ◌∙◌, List, [], Bool, true, false, ◌&&◌, arith, leb, length, drop, le-leb, leb-true}
use Rattle.lists.specs.Tests.{and_left, and_right}
use Rattle.decimals.specs.Walk.{drop_byte}
use Rattle.refusals.specs.declared.Refusal.{Refusal}
use Rattle.refusals.specs.declared.Refusal.TheVariants.{Form}
use Rattle.lines.specs.Lines.{Line, line, beyond, fault, parse_word, parse_scope, held_path}
use Rattle.lines.specs.Reading.{going, failed, read_scope, closed}
use Rattle.lines.specs.Answers.{FieldSays, PathSays, ScopeSays, state_of, read_word}
use Rattle.lines.specs.declared.Cursor.{Cursor}
use Rattle.lines.specs.declared.Scope.{Scope}
use Rattle.lines.specs.declared.PathRead.{PathRead}

-- whether a reading goes on
abbrev pub goes_on : List ℕ → Cursor → Bool
goes_on s c = c.on && (leb c.at (length s) && leb c.line c.at)

-- the cursor behind a line, and the one that fails at it
abbrev pub behind : Cursor → ℕ → Cursor
behind c next = record { at = next; line = c.line + 1; on = true; refusal = Form }

abbrev pub fails : Cursor → Refusal → Cursor
fails c why = record { at = c.at; line = c.line + 1; on = false; refusal = why }

module _ (s : List ℕ) (c : Cursor) where
  pub on_within : goes_on s c ≡ true → c.at ≤ length s
  on_within h = leb-true _ _ (and_left (leb c.at (length s)) (leb c.line c.at) (and_right c.on _ h))

  pub on_lines : goes_on s c ≡ true → c.line ≤ c.at
  on_lines h = leb-true _ _ (and_right (leb c.at (length s)) (leb c.line c.at) (and_right c.on _ h))

  state_on : goes_on s c ≡ true → state_of s c ≡ going (drop c.at s) (c.line + 1)
  state_on h = rw h

  state_off : goes_on s c ≡ false → state_of s c ≡ failed c.refusal c.line
  state_off h = rw h

  -- behind a line the reading goes on
  state_behind : (next : ℕ) → goes_on s c ≡ true → next ≤ length s → c.at < next → state_of s (behind c next) ≡ going (drop next s) (c.line + 1 + 1)
  state_behind next h k b = rw (le-leb next (length s) k, le-leb (c.line + 1) next (omega (arith, on_lines h)))

  state_fails : (why : Refusal) → state_of s (fails c why) ≡ failed why (c.line + 1)
  state_fails why = refl

  -- trailing bytes fail a reading that is on
  pub closed_trailing : (d : Cursor) → goes_on s c ≡ true → c.at < length s → d ≡ fails c Form → state_of s d ≡ closed (state_of s c)
  closed_trailing d h k e = rw (state_on h, drop_byte s c.at k, e) (state_fails Form)

  -- the reading of a line of two words, by what the text at the cursor begins with
  module _ (first : List ℕ) (one : ℕ) (second : List ℕ) (other : ℕ) where
    module _ (h : goes_on s c ≡ true) where
      pub word_behind : (n next : ℕ) (d : Cursor) → parse_word first one second other (drop c.at s) ≡ line n (drop next s) → next ≤ length s →
          c.at < next → d ≡ behind c next → FieldSays s (record { value = n; cursor = d }) (read_word first one second other (state_of s c))
      word_behind n next d e k b g = rw (state_on h, e, g) (record { value = refl; state = state_behind next h k b })

      pub word_fault : (d : Cursor) → parse_word first one second other (drop c.at s) ≡ fault → d ≡ fails c Form →
          FieldSays s (record { value = 0; cursor = d }) (read_word first one second other (state_of s c))
      word_fault d e g = rw (state_on h, e, g) (record { value = refl; state = state_fails Form })

  -- a path's reading, by the same
  module _ (h : goes_on s c ≡ true) where
    pub scope_fault : (r : Scope) (d : Cursor) → parse_scope (drop c.at s) ≡ fault → d ≡ fails c Form →
        r ≡ record { path = held_path []; len = 0; cursor = d } → ScopeSays s r (read_scope (state_of s c))
    scope_fault r d e g k = rw (state_on h, e, k, g) (record { path = refl; len = refl; state = state_fails Form })

    pub scope_behind : (at : ℕ) (p : PathRead) (d : Cursor) (read : Line (List ℕ)) → parse_scope (drop c.at s) ≡ read → PathSays s at (Some p) read →
        c.at ≤ at → d ≡ behind c p.next → ScopeSays s (record { path = p.path; len = p.len; cursor = d }) (read_scope (state_of s c))
    unfolding PathSays
    scope_behind at p d (line q rest) e says b g =
        rw (state_on h, e, g)
        (record { path = says.0; len = says.1; state = state_behind p.next h says.3 (omega (arith, says.4)) ∙ rw says.2 })
    scope_behind at p d beyond e says b g = absurd says
    scope_behind at p d fault e says b g = absurd says

-- a path that was not read is none
pub path_unread : (s : List ℕ) (at : ℕ) (read : Line (List ℕ)) → PathSays s at None read → read ≡ fault
unfolding PathSays
path_unread s at (line q rest) says = absurd says
path_unread s at beyond says = absurd says
path_unread s at fault says = refl
