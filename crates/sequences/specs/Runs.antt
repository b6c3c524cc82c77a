-- Document 01, "Sequences and standing scans": calls made one after the other, and what holds at every one of them.
-- Which calls these are (`Action`), what passes from one to the next (`State`), what comes of each (`Result`) and what
-- stands in the model (`Model`) is left open here.
use Rattle.std.specs.Prelude.{List, [], ◌∷◌}

-- what one call does: what it gets from the call before it, what comes of it, and what it hands to the next
abbrev pub Step : Type 0 → Type 0 → Type 0 → Type 1
Step Action State Result = Action → State → Result → State → Type 0

-- document 01: each call gets the reel that "the call before it handed back, refused or not"
pub data Run {Action State Result : Type 0} (S : Step Action State Result) : State → List Action → Type 0 where
  done : {given : State} → Run S given []
  then : {given : State} {action : Action} {others : List Action} (result : Result) (handed : State) →
      S action given result handed → Run S handed others → Run S given (action ∷ others)

-- `Fact` holds of every call of a run, with what stands before it; for the next call stands what `after` makes of that
abbrev pub EveryCall : {Action State Result Model : Type 0} {S : Step Action State Result}
    (Fact : Action → Model → Result → State → Type 0) (after : Action → Model → Model)
    {given : State} {actions : List Action} → Run S given actions → Model → Type 0
EveryCall Fact after done standing = Unit {0}
EveryCall Fact after (then {action = action} result handed does run) standing =
    Fact action standing result handed × EveryCall Fact after run (after action standing)
