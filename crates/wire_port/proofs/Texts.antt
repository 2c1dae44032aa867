-- A text is read as what its lines say.
use Rattle.std.proofs.Common.{◌≡◌, ◌≢◌, ◌⊎◌, inl, inr, ◌+◌, ◌≤◌, ℕ, suc, Bool, true, false, List, [], ◌∷◌, ◌++◌, length, nat_eq, ap, ◌∙◌, sym, refl, arith, eqb-true, eq-eqb, subst, if◌then◌else◌, append_assoc, Result, Ok, Err, IfOk}
use Rattle.std.proofs.lemmas.List.{append-nil}
use Rattle.std.specs.List.{list_any}
use Rattle.wire_port.specs.declared.script.Stand.{Stand}
use Rattle.wire_port.specs.declared.script.Stand.TheVariants.{Unopened, Opened, Dropped}
use Rattle.wire_port.specs.declared.script.ScriptRefusal.{ScriptRefusal}
use Rattle.wire_port.specs.declared.script.ScriptRefusal.TheVariants.{Memory, Refused}
use Rattle.wire_port.specs.Reading.{RefusesText}
use Rattle.wire_port.specs.Offers.{ScriptLine, opens_line, lines_open_once}
use Rattle.wire_port.specs.Offers.ScriptLine.{Open, Send, Drop, Room}
use Rattle.wire_port.specs.Words.{lines_of, words_of, begins_comment, is_passed_over}
use Rattle.wire_port.specs.Lines.{and_then, line_said}
use Rattle.wire_port.specs.Scripts.{ScriptFault, next_stand, stand_after, opened_at, used_at, may_follow, behind, after_words, at_line, script_from}
use Rattle.wire_port.specs.Format.{MayFollow, IsLine, Say, IsScript, NoScript, RefusesScript}
use Rattle.wire_port.proofs.Forms.{chained, said_by, line_is_said}
use Rattle.wire_port.proofs.Standing.{stand_append}

-- ---- one line behind others

opened_well : (stand : Stand) → IfOk (opened_at stand) (λ _. stand ≡ Unopened)
opened_well Unopened = refl
opened_well Opened = tt
opened_well Dropped = tt

used_well : (stand : Stand) → IfOk (used_at stand) (λ _. stand ≡ Opened)
used_well Unopened = tt
used_well Opened = refl
used_well Dropped = tt

follows_well : (before : List ScriptLine) (line : ScriptLine) → IfOk (may_follow before line) (λ _. MayFollow before line)
follows_well before (Open conn port) = opened_well (stand_after conn before)
follows_well before (Send conn bytes) = used_well (stand_after conn before)
follows_well before (Drop conn) = used_well (stand_after conn before)
follows_well before (Room conn room) = used_well (stand_after conn before)

-- what the lines are after some words
record OneMore (before : List ScriptLine) (words : List (List ℕ)) (after : List ScriptLine) : Type 0 where
  pub line : ScriptLine
  pub are : after ≡ before ++ line ∷ []
  pub counts : is_passed_over words ≡ false
  pub says : IsLine words line
  pub follows : MayFollow before line

abbrev Reads : List ScriptLine → List (List ℕ) → List ScriptLine → Type 0
Reads before words after = ((is_passed_over words ≡ true) × (after ≡ before)) ⊎ OneMore before words after

words_read : (before : List ScriptLine) (words : List (List ℕ)) → IfOk (after_words before words) (Reads before words)
words_read before [] = inl (refl, refl)
words_read before (word ∷ words) = go (begins_comment word) refl
  where
    go : (t : Bool) → begins_comment word ≡ t → IfOk (after_words before (word ∷ words)) (Reads before (word ∷ words))
    go true is = rw is (inl (is, refl))
    go false is =
        rw is
        (chained (IsLine (word ∷ words)) (Reads before (word ∷ words)) (line_said word words) (behind before) (line_is_said word words) (λ line says.
        chained (λ _. MayFollow before line) (Reads before (word ∷ words)) (may_follow before line) _ (follows_well before line) (λ _ follows.
        inr (record { line = line; are = refl; counts = is; says = says; follows = follows }))))

-- ---- texts

pub record Rest (before : List ScriptLine) (texts : List (List ℕ)) (after : List ScriptLine) : Type 0 where
  pub lines : List ScriptLine
  pub are : after ≡ before ++ lines
  pub say : Say before texts lines

more_say : (before middle after : List ScriptLine) (text : List ℕ) (texts : List (List ℕ)) → Reads before (words_of text) middle → Rest middle texts after → Rest before (text ∷ texts) after
more_say before middle after text texts (inl over) rest = record {
  lines = rest.lines;
  are = rest.are ∙ ap (λ (front : List ScriptLine). front ++ rest.lines) over.1;
  say = inl (over.0, subst (λ (front : List ScriptLine). Say front texts rest.lines) over.1 rest.say);
}
more_say before middle after text texts (inr one) rest = record {
  lines = one.line ∷ rest.lines;
  are = rest.are ∙ ap (λ (front : List ScriptLine). front ++ rest.lines) one.are ∙ append_assoc before (one.line ∷ []) rest.lines;
  say = inr (one.line, rest.lines, refl, record { counts = one.counts; says = one.says; follows = one.follows }, subst (λ (front : List ScriptLine). Say front texts rest.lines) one.are rest.say);
}

pub all_say : (number : ℕ) (before : List ScriptLine) (texts : List (List ℕ)) (after : List ScriptLine) → script_from number before texts ≡ Ok after → Rest before texts after
all_say number before [] after is = record { lines = []; are = cc is ∙ sym (append-nil before); say = refl }
all_say number before (text ∷ texts) after is = go (after_words before (words_of text)) refl is (λ middle at. all_say (suc number) middle texts after at)
  where
    go : (read : Result (List ScriptLine) ℕ) → after_words before (words_of text) ≡ read → and_then (at_line number read) (λ middle. script_from (suc number) middle texts) ≡ Ok after
        → ((middle : List ScriptLine) → script_from (suc number) middle texts ≡ Ok after → Rest middle texts after) → Rest before (text ∷ texts) after
    go (Ok middle) read_is at rest = more_say before middle after text texts (said_by (Reads before (words_of text)) _ middle read_is (words_read before (words_of text))) (rest middle at)
    go (Err cause) read_is at rest = absurd (cc at)

pub record Stops (number : ℕ) (before : List ScriptLine) (texts : List (List ℕ)) (fault : ScriptFault) : Type 0 where
  pub front : List (List ℕ)
  pub refused : List ℕ
  pub behind : List (List ℕ)
  pub lines : List ScriptLine
  pub are : texts ≡ front ++ refused ∷ behind
  pub say : Say before front lines
  pub line_is : fault.line ≡ number + length front
  pub wrong : after_words (before ++ lines) (words_of refused) ≡ Err fault.cause

more_stops : (number : ℕ) (before middle : List ScriptLine) (fault : ScriptFault) (text : List ℕ) (texts : List (List ℕ)) → Reads before (words_of text) middle → Stops (suc number) middle texts fault → Stops number before (text ∷ texts) fault
more_stops number before middle fault text texts reads rest =
    let said : Rest before (text ∷ rest.front) (middle ++ rest.lines) = more_say before middle _ text rest.front reads (record { lines = rest.lines; are = refl; say = rest.say }) in
    record {
      front = text ∷ rest.front;
      refused = rest.refused;
      behind = rest.behind;
      lines = said.lines;
      are = ap (λ (all : List (List ℕ)). text ∷ all) rest.are;
      say = said.say;
      line_is = omega (arith, rest.line_is);
      wrong = subst (λ (all : List ScriptLine). after_words all (words_of rest.refused) ≡ Err fault.cause) said.are rest.wrong;
    }

pub one_stops : (number : ℕ) (before : List ScriptLine) (texts : List (List ℕ)) (fault : ScriptFault) → script_from number before texts ≡ Err fault → Stops number before texts fault
one_stops number before [] fault is = absurd (cc is)
one_stops number before (text ∷ texts) fault is = go (after_words before (words_of text)) refl is (λ middle at. one_stops (suc number) middle texts fault at)
  where
    go : (read : Result (List ScriptLine) ℕ) → after_words before (words_of text) ≡ read → and_then (at_line number read) (λ middle. script_from (suc number) middle texts) ≡ Err fault
        → ((middle : List ScriptLine) → script_from (suc number) middle texts ≡ Err fault → Stops (suc number) middle texts fault) → Stops number before (text ∷ texts) fault
    go (Ok middle) read_is at rest = more_stops number before middle fault text texts (said_by (Reads before (words_of text)) _ middle read_is (words_read before (words_of text))) (rest middle at)
    go (Err cause) read_is at rest =
        let fault_is : record { line = number; cause = cause } ≡ fault = cc at in
        subst (Stops number before (text ∷ texts)) fault_is (record {
          front = [];
          refused = text;
          behind = texts;
          lines = [];
          are = refl;
          say = refl;
          line_is = omega arith;
          wrong = ap (λ (all : List ScriptLine). after_words all (words_of text)) (append-nil before) ∙ read_is;
        })

pub is_script : (text : List ℕ) (lines : List ScriptLine) → length text ≤ 1048576 → script_from 1 [] (lines_of text) ≡ Ok lines → IsScript text lines
is_script text lines fits is =
    let rest = all_say 1 [] (lines_of text) lines is in
    record { no_more = fits; say = subst (Say [] (lines_of text)) (sym rest.are) rest.say }

pub no_script : (text : List ℕ) (number cause : ℕ) → length text ≤ 1048576 → script_from 1 [] (lines_of text) ≡ Err (record { line = number; cause = cause }) → NoScript text number cause
no_script text number cause fits is =
    let stop = one_stops 1 [] (lines_of text) (record { line = number; cause = cause }) is in
    inr (record {
      no_more = fits;
      front = stop.front;
      refused = stop.refused;
      behind = stop.behind;
      lines = stop.lines;
      are = stop.are;
      say = stop.say;
      number_is = omega (arith, stop.line_is);
      wrong = stop.wrong;
    })

-- ---- no connection opens twice

abbrev pub Follow : List ScriptLine → List ScriptLine → Type 0
Follow before [] = Unit {0}
Follow before (line ∷ lines) = MayFollow before line × Follow (before ++ line ∷ []) lines

follow : (before : List ScriptLine) (texts : List (List ℕ)) (lines : List ScriptLine) → Say before texts lines → Follow before lines
follow before [] lines say = subst (Follow before) (sym say) tt
follow before (text ∷ texts) lines (inl over) = follow before texts lines over.1
follow before (text ∷ texts) lines (inr one) = subst (Follow before) (sym one.2) (one.3.follows, follow (before ++ one.0 ∷ []) texts one.1 one.4)

stays : (conn : ℕ) (stand : Stand) (line : ScriptLine) → stand ≢ Unopened → next_stand conn stand line ≢ Unopened
stays conn stand (Open other port) ne = go (nat_eq other conn)
  where
    go : (t : Bool) → (if t then Opened else stand) ≢ Unopened
    go true is = absurd (cc is)
    go false is = ne is
stays conn stand (Send other bytes) ne = ne
stays conn stand (Drop other) ne = go (nat_eq other conn)
  where
    go : (t : Bool) → (if t then Dropped else stand) ≢ Unopened
    go true is = absurd (cc is)
    go false is = ne is
stays conn stand (Room other room) ne = ne

stays_behind : (conn : ℕ) (before : List ScriptLine) (line : ScriptLine) → stand_after conn before ≢ Unopened → stand_after conn (before ++ line ∷ []) ≢ Unopened
stays_behind conn before line ne is = stays conn (stand_after conn before) line ne (sym (stand_append conn Unopened before line) ∙ is)

not_again : (conn : ℕ) (before lines : List ScriptLine) → stand_after conn before ≢ Unopened → Follow before lines → list_any (opens_line conn) lines ≡ false
not_again conn before [] ne follows = refl
not_again conn before (Open other port ∷ lines) ne follows = go (nat_eq conn other) refl (not_again conn (before ++ Open other port ∷ []) lines (stays_behind conn before (Open other port) ne) follows.1)
  where
    go : (t : Bool) → nat_eq conn other ≡ t → list_any (opens_line conn) lines ≡ false → list_any (opens_line conn) (Open other port ∷ lines) ≡ false
    go true is rest = absurd (ne (ap (λ (n : ℕ). stand_after n before) (eqb-true conn other is) ∙ follows.0))
    go false is rest = rw is rest
not_again conn before (Send other bytes ∷ lines) ne follows = not_again conn (before ++ Send other bytes ∷ []) lines (stays_behind conn before (Send other bytes) ne) follows.1
not_again conn before (Drop other ∷ lines) ne follows = not_again conn (before ++ Drop other ∷ []) lines (stays_behind conn before (Drop other) ne) follows.1
not_again conn before (Room other room ∷ lines) ne follows = not_again conn (before ++ Room other room ∷ []) lines (stays_behind conn before (Room other room) ne) follows.1

is_opened : (conn port : ℕ) (before : List ScriptLine) → stand_after conn (before ++ Open conn port ∷ []) ≢ Unopened
is_opened conn port before is =
    let at : next_stand conn (stand_after conn before) (Open conn port) ≡ Unopened = sym (stand_append conn Unopened before (Open conn port)) ∙ is in
    absurd (cc (rw (eq-eqb conn conn refl) at at))

once : (before lines : List ScriptLine) → Follow before lines → lines_open_once lines ≡ true
once before [] follows = refl
once before (Open conn port ∷ lines) follows =
    rw (not_again conn (before ++ Open conn port ∷ []) lines (is_opened conn port before) follows.1) (once (before ++ Open conn port ∷ []) lines follows.1)
once before (Send conn bytes ∷ lines) follows = once (before ++ Send conn bytes ∷ []) lines follows.1
once before (Drop conn ∷ lines) follows = once (before ++ Drop conn ∷ []) lines follows.1
once before (Room conn room ∷ lines) follows = once (before ++ Room conn room ∷ []) lines follows.1

pub script_opens_once : (text : List ℕ) (lines : List ScriptLine) → IsScript text lines → lines_open_once lines ≡ true
script_opens_once text lines script = once [] lines (follow [] (lines_of text) lines script.say)

pub refuses : (text : List ℕ) (refusal : ScriptRefusal) → length text ≤ 1048576 → RefusesText refusal (script_from 1 [] (lines_of text)) → RefusesScript refusal text
refuses text Memory fits read = tt
refuses text (Refused number cause) fits read = no_script text number cause fits read
