-- One step of a walk under restrictions. The walk's answer is that of its steps, one after the other.
use Rattle.std.specs.Prelude.{ℕ, ◌-◌, List, [], ◌∷◌, Option, None, Some}
use Rattle.model.specs.Answers.{refused}
use Rattle.model.specs.Path.{Component}
use Rattle.model.specs.Trace.{Restrictions, forbid_any, answer}
use Rattle.model.specs.Walk.{Request, Turn, refuses, went, followed, Transition, transition, finish, walk}
use Rattle.model.specs.declared.State.{State}
use Rattle.model.specs.declared.Errno.{Errno}
use Rattle.model.specs.declared.Answer.{Answer}

-- A walk between two components (RULES 9.1): how many links it may still follow, which components are pending, and its state.
pub record Configuration : Type 0 where
  pub links : ℕ
  pub pending : List Component
  pub state : State

-- Where a step leads: to the next configuration; to the end, every component being taken; or to a refusal in a state.
pub data Onward : Type 0 where
  more : Configuration → Onward
  done : State → Onward
  failed : Errno → State → Onward

-- on with what is pending, if anything is
abbrev pub on_with : ℕ → List Component → State → Onward
on_with links [] s = done s
on_with links (c ∷ pending) s = more (record { links = links; pending = c ∷ pending; state = s })

abbrev pub next_by : ℕ → List Component → Turn → Onward
next_by links pending (refuses e s) = failed e s
next_by links pending (went s) = on_with links pending s
next_by links pending (followed cs s) = on_with (links - 1) cs s

abbrev pub failed_by : Option Errno → State → Onward → Onward
failed_by None s next = next
failed_by (Some e) s next = failed e s

-- "tried left to right over all restrictions set" (RULES 10.4): a transition under them fails at the first of its events that they forbid
abbrev pub restricted : Restrictions → ℕ → List Component → Transition → Onward
restricted R links pending t = failed_by (forbid_any R t.events) t.met (next_by links pending t.turn)

-- one step: one component
abbrev pub step_of : Restrictions → Request → ℕ → List Component → State → Onward
step_of R a links [] s = done s
step_of R a links (c ∷ pending) s = restricted R links pending (transition a links c pending s)

unfoldable pub step : Restrictions → Request → Configuration → Onward
step R a c = step_of R a c.links c.pending c.state

-- what the walk answers from a configuration, and from where a step leads
unfoldable pub answer_from : Restrictions → Request → Configuration → Answer
answer_from R a c = answer R (walk a c.links c.pending c.state)

abbrev pub answer_after : Restrictions → Request → Onward → Answer
answer_after R a (more c) = answer_from R a c
answer_after R a (done s) = finish a s
answer_after R a (failed e s) = refused e s.progress
