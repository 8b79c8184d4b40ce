-- The claims of isolation put to use: two pairs of tables agree on a part, and what one of a pair answers to confined calls is computed; what the other
-- answers comes from the claims. Calls that are not confined tell the tables apart. Assumes nothing.
use Rattle.std.specs.Prelude.{None, Ok}
use Prim.Native.Nat.{ℕ, zero, suc}
use mathlib.Core.Bool.{Bool, true, false}
use mathlib.Core.List.{List, [], ◌∷◌, map}
use native.Mathlib.Omega.{arith}
use lib.ListN.{replicate}
use mathlib.Core.Path.{◌≡◌, refl, sym, ap, ap₂, ◌∙◌}
use Rattle.model.specs.Bytes.{ascii}
use Rattle.model.specs.Tree.{Tree, tree_of}
use Rattle.model.specs.TableCheck.{table_check}
use Rattle.model.specs.Handles.{handle_refused}
use Rattle.model.specs.Walk.{place_at}
use Rattle.model.specs.Resolve.{Call, call_of, resolve}
use Rattle.model.specs.Descriptors.{closed, holding, DescriptorCall, handle_at, slot_at, serve, replies_to, slots_after}
use Rattle.model.specs.declared.Answer.{Answer}
use Rattle.model.specs.declared.Answer.TheVariants.{Found, Refused}
use Rattle.model.specs.declared.Place.{Place}
use Rattle.model.specs.declared.Reply.{Reply}
use Rattle.model.specs.declared.Reply.TheVariants.{Done}
use Rattle.model.proofs.Computing.{of-descriptors, of-bench}
use Rattle.model.proofs.BenchTree.{bench, open_how, at}
use Rattle.model.proofs.Scripts.{calls, replies, plain, gives}
use Rattle.model.proofs.WorkedTable.{worked}
use Rattle.isolation.specs.Reachable.{Reachable, here, Each}
use Rattle.isolation.specs.Claims.{is_scoped, StaysInside, Sharing}
use Rattle.isolation.specs.Scripts.{HeldInside, script_scoped, SameScript}
use Rattle.isolation.proofs.Scripts.{opens-inside, opens-alike, scripts-alike}
use Rattle.isolation.proofs.Isolated.{shared-both, never-outside, outside-makes-no-difference}
use Rattle.isolation_worked.specs.Agree.{all_below, all_of, listed, entry_agrees, names_agree, place_agrees, agree_on, join_names, part_of, agree}
use Rattle.isolation_worked.proofs.AgreeLaws.{agree-common}
use Rattle.isolation_worked.proofs.Pairs.{moved_nodes, moved_mounts, moved_entries, moved, alone_nodes, alone_mounts, alone_entries, alone}
use Rattle.isolation_worked.proofs.Pairs.{Row, asked, plainly, cal, cal_rows, lab, lab_rows, given, cal_lines}

-- answers to rows, over an image and from a place
abbrev answers : List ℕ → Place → List Row → List Answer
answers image p rows = map (λ c. resolve image (asked p c)) rows

abbrev expected : List Row → List Answer
expected rows = map (λ c. c.expected) rows

-- "/", with nothing set
abbrev top : Place → Call
top p = asked p (plainly "/" 0 0 (at 0 0 0 0))

-- what is computed: the tables accepted, the handles good, the tests passed, the answers of the bench tree, and what tells the tables apart
record Computed : Type 0 where
  moved-accepted : table_check moved ≡ Ok tt
  alone-accepted : table_check alone ≡ Ok tt
  cal-good : (marked : Bool) → handle_refused (tree_of bench) (handle_at cal marked) ≡ None
  cal-good' : (marked : Bool) → handle_refused (tree_of moved) (handle_at cal marked) ≡ None
  lab-good : (marked : Bool) → handle_refused (tree_of bench) (handle_at lab marked) ≡ None
  lab-good' : (marked : Bool) → handle_refused (tree_of alone) (handle_at lab marked) ≡ None
  cal-agrees : agree (tree_of bench) (tree_of moved) cal ≡ true
  lab-agrees : agree (tree_of bench) (tree_of alone) lab ≡ true
  cal-scoped : map (λ c. is_scoped (asked cal c)) cal_rows ≡ map (λ c. true) cal_rows
  lab-scoped : map (λ c. is_scoped (asked lab c)) lab_rows ≡ map (λ c. true) lab_rows
  cal-answers : answers bench cal cal_rows ≡ expected cal_rows
  lab-answers : answers bench lab lab_rows ≡ expected lab_rows
  marked-scoped : is_scoped (call_of (handle_at cal true) (ascii "tare") (open_how 0 0)) ≡ true
  script-scoped : script_scoped bench given (calls cal_lines) ≡ true
  script-replies : replies_to bench given (calls cal_lines) ≡ replies cal_lines
  top-of-bench : (p : Place) → resolve bench (top p) ≡ at 0 0 0 0
  top-of-moved : (p : Place) → resolve moved (top p) ≡ at 0 1 0 0
  top-of-alone : (p : Place) → resolve alone (top p) ≡ at 0 1 0 0

computed : Computed
unfolding of-descriptors of-bench all_below all_of listed entry_agrees names_agree place_agrees agree_on join_names part_of agree
    slots_after is_scoped script_scoped moved_nodes moved_mounts moved_entries moved alone_nodes alone_mounts alone_entries alone cal_rows lab_rows given cal_lines
computed = record {
  moved-accepted = refl;
  alone-accepted = refl;
  cal-good = λ marked. refl;
  cal-good' = λ marked. refl;
  lab-good = λ marked. refl;
  lab-good' = λ marked. refl;
  cal-agrees = refl;
  lab-agrees = refl;
  cal-scoped = refl;
  lab-scoped = refl;
  cal-answers = refl;
  lab-answers = refl;
  marked-scoped = refl;
  script-scoped = refl;
  script-replies = refl;
  top-of-bench = λ p. refl;
  top-of-moved = λ p. refl;
  top-of-alone = λ p. refl;
}

-- from one row to all of them: each is confined by what it sets
module _ (image image' : List ℕ) (p : Place) (sharing : (marked : Bool) → Sharing image image' (handle_at p marked)) where
  rows_alike : (rows : List Row) → map (λ c. is_scoped (asked p c)) rows ≡ map (λ c. true) rows → answers image' p rows ≡ answers image p rows
  rows_alike [] scoped = refl
  rows_alike (c ∷ rows) scoped =
      let here : is_scoped (asked p c) ≡ true = cc in
      let later : map (λ c. is_scoped (asked p c)) rows ≡ map (λ c. true) rows = cc in
      ap₂ (λ (a : Answer) (l : List Answer). a ∷ l) (sym (outside-makes-no-difference image image' (asked p c) (sharing c.marked) here).answers) (rows_alike rows later)

  rows_inside : (rows : List Row) → map (λ c. is_scoped (asked p c)) rows ≡ map (λ c. true) rows → Each (λ c. StaysInside image (asked p c)) rows
  unfolding Each
  rows_inside [] scoped = tt
  rows_inside (c ∷ rows) scoped =
      let here : is_scoped (asked p c) ≡ true = cc in
      let later : map (λ c. is_scoped (asked p c)) rows ≡ map (λ c. true) rows = cc in
      let s = sharing c.marked in
      (never-outside image (asked p c) (record { accepted = s.accepted; good = s.good; scoped = here }), rows_inside rows later)

closed-inside : (t : Tree) (p : Place) (n : ℕ) → HeldInside t p (replicate n closed)
unfolding Each
closed-inside t p zero = tt
closed-inside t p (suc n) = (tt, closed-inside t p n)

-- what the bench tree shares with another table: they agree, and the handle is good in both
module _ (image : List ℕ) (p : Place) (accepted : table_check image ≡ Ok tt) (agrees : agree (tree_of bench) (tree_of image) p ≡ true)
    (good : (marked : Bool) → handle_refused (tree_of bench) (handle_at p marked) ≡ None) (good' : (marked : Bool) → handle_refused (tree_of image) (handle_at p marked) ≡ None) where
  shares : (marked : Bool) → Sharing bench image (handle_at p marked)
  shares marked = record {
    accepted = worked.bench-accepted;
    accepted' = accepted;
    good = good marked;
    good' = good' marked;
    common = agree-common (tree_of bench) (tree_of image) p agrees;
  }

shares-cal : (marked : Bool) → Sharing bench moved (handle_at cal marked)
shares-cal = shares moved cal computed.moved-accepted computed.cal-agrees computed.cal-good computed.cal-good'

shares-lab : (marked : Bool) → Sharing bench alone (handle_at lab marked)
shares-lab = shares alone lab computed.alone-accepted computed.lab-agrees computed.lab-good computed.lab-good'

given_inside : HeldInside (tree_of bench) cal given
unfolding Each given
given_inside = (here refl, closed-inside (tree_of bench) cal 63)

-- the script's first line: "tare", through the marked "cal"
abbrev first_open : DescriptorCall
first_open = plain 0 "tare"

held : slot_at given 0 ≡ holding (handle_at cal true)
unfolding slot_at given
held = refl

abbrev head_or : Reply → List Reply → Reply
head_or r [] = r
head_or r (x ∷ xs) = x

first-reply : (serve bench given first_open).reply ≡ gives 1 0 3 1 0
unfolding replies_to cal_lines
first-reply = ap (λ rs. head_or Done rs) computed.script-replies

-- The tables of a pair share a part and are two; their answers to calls and to a script that are confined to it are the same, and lie in it.
pub record WorkedPairs : Type 0 where
  pub cal-shared : (marked : Bool) → Sharing bench moved (handle_at cal marked)
  pub lab-shared : (marked : Bool) → Sharing bench alone (handle_at lab marked)
  pub cal-first : answers bench cal cal_rows ≡ expected cal_rows
  pub cal-second : answers moved cal cal_rows ≡ expected cal_rows
  pub lab-first : answers bench lab lab_rows ≡ expected lab_rows
  pub lab-second : answers alone lab lab_rows ≡ expected lab_rows
  pub cal-inside : Each (λ c. StaysInside bench (asked cal c)) cal_rows
  pub lab-inside : Each (λ c. StaysInside bench (asked lab c)) lab_rows
  pub cal-back : (marked : Bool) → Sharing moved bench (handle_at cal marked)
  pub opened_inside : Reachable (tree_of bench) cal (place_at 0 3)
  pub opened-alike : serve bench given first_open ≡ serve moved given first_open
  pub script-first : replies_to bench given (calls cal_lines) ≡ replies cal_lines
  pub script-second : replies_to moved given (calls cal_lines) ≡ replies cal_lines
  pub script-inside : HeldInside (tree_of bench) cal (slots_after bench given (calls cal_lines))
  pub cal-apart : resolve bench (top cal) ≡ resolve moved (top cal) → ⊥
  pub lab-apart : resolve bench (top lab) ≡ resolve alone (top lab) → ⊥

worked-script : SameScript bench moved (handle_at cal true) given (calls cal_lines)
worked-script = scripts-alike bench moved (handle_at cal true) (shares-cal true) given (calls cal_lines) given_inside computed.script-scoped

-- the root of mount 0 is node 0 in one and node 1 in the other
abbrev node_found : Answer → ℕ
node_found (Found r) = r.place.node
node_found (Refused r) = 0

roots-apart : at 0 0 0 0 ≡ at 0 1 0 0 → ⊥
roots-apart e = omega (arith, ap node_found e)

pub worked-pairs : WorkedPairs
worked-pairs = record {
  cal-shared = shares-cal;
  lab-shared = shares-lab;
  cal-first = computed.cal-answers;
  cal-second = rows_alike bench moved cal shares-cal cal_rows computed.cal-scoped ∙ computed.cal-answers;
  lab-first = computed.lab-answers;
  lab-second = rows_alike bench alone lab shares-lab lab_rows computed.lab-scoped ∙ computed.lab-answers;
  cal-inside = rows_inside bench moved cal shares-cal cal_rows computed.cal-scoped;
  lab-inside = rows_inside bench alone lab shares-lab lab_rows computed.lab-scoped;
  cal-back = λ marked. shared-both bench moved (handle_at cal marked) (shares-cal marked);
  opened_inside =
      opens-inside bench given 0 false (ascii "tare") (open_how 0 0) (handle_at cal true) held
      (record { accepted = worked.bench-accepted; good = computed.cal-good true; scoped = computed.marked-scoped }) _ first-reply;
  opened-alike = opens-alike bench moved given 0 false (ascii "tare") (open_how 0 0) (handle_at cal true) held (shares-cal true) computed.marked-scoped;
  script-first = computed.script-replies;
  script-second = sym worked-script.replies ∙ computed.script-replies;
  script-inside = worked-script.inside_after;
  cal-apart = λ e. roots-apart (sym (computed.top-of-bench cal) ∙ e ∙ computed.top-of-moved cal);
  lab-apart = λ e. roots-apart (sym (computed.top-of-bench lab) ∙ e ∙ computed.top-of-alone lab);
}
