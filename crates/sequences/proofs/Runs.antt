-- What holds of every single call holds at every call of a run.
use mathlib.Core.List.{List}
use Rattle.sequences.specs.Runs.{Step, Run, done, then, EveryCall}

-- where what a call gets matches what stands, the fact holds of it, and what it hands on matches what then stands
pub every_call : {Action State Result Model : Type 0} {S : Step Action State Result}
    {Fact : Action → Model → Result → State → Type 0} {after : Action → Model → Model} (Matches : State → Model → Type 0) →
    ((action : Action) (given : State) (result : Result) (handed : State) (standing : Model) → S action given result handed →
    Matches given standing → Fact action standing result handed × Matches handed (after action standing)) →
    {given : State} {actions : List Action} (run : Run S given actions) (standing : Model) → Matches given standing →
    EveryCall Fact after run standing
every_call Matches one done standing matches = tt
every_call {after = after} Matches one (then {given = given} {action = action} result handed does run) standing matches =
    let here = one action given result handed standing does matches in
    (here.0, every_call Matches one run (after action standing) here.1)
