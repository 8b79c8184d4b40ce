-- The open texts of a walk as the code keeps them, and what a walk and the result of its step stand for.
use Rattle.std.specs.Prelude.{ℕ, zero, suc, ◌+◌, ◌-◌, ◌/◌, ◌%◌, ◌≤◌, ◌<◌, Bool, false, ◌&&◌, List, [], ◌++◌, ◌≡◌, length, get_or}
use Rattle.model.specs.Tree.{Tree, tree_of}
use Rattle.model.specs.Path.{Component, components, ends_in_slash}
use Rattle.model.specs.Walk.{standing_on, followed_to, is_empty}
use Rattle.model.specs.Step.{Configuration, Onward, more, done, failed, on_with, step, answer_from}
use Rattle.model.specs.declared.State.{State}
use Rattle.model.specs.declared.Answer.{Answer}
use Rattle.laws.specs.Inside.{Inside}
use Rattle.theorems.specs.Ordered.{Ordered}
use Rattle.text.specs.Positions.{Stands, left}
use Rattle.text.specs.Texts.{text_of, Readable}
use Rattle.request.specs.Requests.{request_for, restrictions_for}
use Rattle.request.specs.declared.Request.{Request}
use Rattle.component.specs.declared.Outcome.{Outcome}
use Rattle.component.specs.declared.Outcome.TheVariants.{Stop, Go, Target, Read}
use Rattle.walk.specs.declared.Walk.{Walk}
use Rattle.walk.specs.declared.Next.{Next}
use Rattle.walk.specs.declared.Next.TheVariants.{More, Done, Failed}

-- the components of a text from a position on
abbrev pub left_in : Tree → List ℕ → ℕ → ℕ → List Component
left_in t path text at = left text (text_of t path text) at

-- A suspended text is one number, text * 4096 + position. The components of the suspended texts, the last suspended first.
unfoldable pub suspended : Tree → List ℕ → List ℕ → ℕ → List Component
suspended t path stack zero = []
suspended t path stack (suc d) = left_in t path (get_or stack d 0 / 4096) (get_or stack d 0 % 4096) ++ suspended t path stack d

-- all components that are pending
abbrev pub pending : Tree → List ℕ → List ℕ → Walk → List Component
pending t path stack w = left_in t path w.text w.at ++ suspended t path stack w.depth

-- the links left to follow
abbrev pub links_left : State → ℕ
links_left s = 40 - s.progress.links

-- what a walk stands for, over an image, a path and a stack
abbrev pub configuration : List ℕ → List ℕ → List ℕ → Walk → Configuration
configuration s path stack w = record { links = links_left w.state; pending = pending (tree_of s) path stack w; state = w.state }

-- what the result of a step stands for, over the stack that the step leaves. Of that stack only the numbers below the depth count.
abbrev pub stands_for : List ℕ → List ℕ → List ℕ → Next → Onward
stands_for s path stack (More w) = more (configuration s path stack w)
stands_for s path stack (Done st) = done st
stands_for s path stack (Failed e st) = failed e st

-- a text that can be read, of at most 4,095 bytes, with a position that stands at a component or at its end
pub record Placed (t : Tree) (path : List ℕ) (text at : ℕ) : Type 0 where
  pub small : text ≤ 65535
  pub readable : Readable t text
  pub short : length (text_of t path text) ≤ 4095
  pub stands : Stands (text_of t path text) at

-- a suspended text has a component left
pub record Suspended (t : Tree) (path : List ℕ) (v : ℕ) : Type 0 where
  pub placed : Placed t path (v / 4096) (v % 4096)
  pub some_left : v % 4096 < length (text_of t path (v / 4096))

-- a walk whose open texts are in order; its own text may have ended
pub record Resting (s path stack : List ℕ) (w : Walk) : Type 0 where
  pub placed : Placed (tree_of s) path w.text w.at
  pub few_links : w.state.progress.links ≤ 40
  pub few_texts : w.depth ≤ w.state.progress.links
  pub stack_length : length stack ≡ 40
  pub each : (i : ℕ) → i < w.depth → Suspended (tree_of s) path (get_or stack i 0)

-- with a component left in its own text
pub record Standing (s path stack : List ℕ) (w : Walk) : Type 0 where
  pub resting : Resting s path stack w
  pub some_left : w.at < length (text_of (tree_of s) path w.text)

-- and with room for what it may still take
pub record Ready (s path stack : List ℕ) (w : Walk) : Type 0 where
  pub standing : Standing s path stack w
  pub ordered : Ordered (tree_of s) (configuration s path stack w)

-- what the definitions answer from a walk on
abbrev pub rest : List ℕ → Request → List ℕ → List ℕ → Walk → Answer
rest s k path stack w = answer_from (restrictions_for k) (request_for s k) (configuration s path stack w)

-- a walk that goes on stands at a component
abbrev pub Held : List ℕ → List ℕ → List ℕ → Next → Type 0
Held s path stack (More w) = Standing s path stack w
Held s path stack (Done st) = Unit {0}
Held s path stack (Failed e st) = Unit {0}

-- a result, over the stack that is left, that stands for where the definitions lead
pub record Leads (s path stack : List ℕ) (to : Onward) (r : Next) : Type 0 where
  pub stands : stands_for s path stack r ≡ to
  pub held : Held s path stack r

-- on from a walk with what is pending
abbrev pub Advanced : List ℕ → List ℕ → List ℕ → Walk → Next → Type 0
Advanced s path stack w r = Leads s path stack (on_with (links_left w.state) (pending (tree_of s) path stack w) w.state) r

-- one step: the result stands for the definitions' step of what the walk stood for
abbrev pub Stepped : List ℕ → Request → List ℕ → List ℕ → Walk → List ℕ → Next → Type 0
Stepped s k path stack w after r = Leads s path after (step (restrictions_for k) (request_for s k) (configuration s path stack w)) r

-- where an outcome leads is in the tree, and a followed link is not the 41st
abbrev pub OutcomeInside : Tree → ℕ → Outcome → Type 0
OutcomeInside t links (Stop e) = Unit {0}
OutcomeInside t links (Go p) = Inside t p
OutcomeInside t links (Target p) = Inside t p × (links < 40)
OutcomeInside t links (Read n p) = Inside t p × (links < 40) × (n < t.nodes) × (t.kind n ≡ 3)

-- where the definitions lead after an outcome: from the links left, the components pending and the state, with the component taken
unfoldable pub after_outcome : Tree → ℕ → List Component → State → Outcome → Onward
after_outcome t links cs s (Stop e) = failed e s
after_outcome t links cs s (Go p) = on_with links cs (standing_on p s)
after_outcome t links cs s (Target p) = on_with (links - 1) cs (followed_to p false s)
after_outcome t links cs s (Read n p) = on_with (links - 1) (components n (t.body n) ++ cs) (followed_to p (is_empty cs && ends_in_slash (t.body n)) s)

-- the same of a walk that stands behind the component
abbrev pub proceed : List ℕ → List ℕ → List ℕ → Walk → Outcome → Onward
proceed s path stack w o = after_outcome (tree_of s) (links_left w.state) (pending (tree_of s) path stack w) w.state o

-- a walk behind a component that it has taken, with where that leads and whether it was the last
pub record Behind (s path stack : List ℕ) (w : Walk) (last : Bool) (o : Outcome) : Type 0 where
  pub resting : Resting s path stack w
  pub good : OutcomeInside (tree_of s) w.state.progress.links o
  pub last_is : last ≡ is_empty (pending (tree_of s) path stack w)

-- on from there
abbrev pub Proceeded : List ℕ → List ℕ → List ℕ → Walk → Outcome → List ℕ → Next → Type 0
Proceeded s path stack w o after r = Leads s path after (proceed s path stack w o) r × (length after ≡ length stack)

-- a walk that has gone on to the body of a link: the body's components are in front of what was pending
pub record Entered (s path stack : List ℕ) (w : Walk) (state : State) (n start : ℕ) (after : List ℕ) (r : Walk) : Type 0 where
  pub state_is : r.state ≡ state
  pub text_is : r.text ≡ n
  pub at_is : r.at ≡ start
  pub depth_few : r.depth ≤ w.depth + 1
  pub same_length : length after ≡ length stack
  pub behind : suspended (tree_of s) path after r.depth ≡ pending (tree_of s) path stack w
  pub each : (i : ℕ) → i < r.depth → Suspended (tree_of s) path (get_or after i 0)
