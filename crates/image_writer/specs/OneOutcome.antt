-- Each public operation's contract admits one outcome.
-- Assumes nothing.
use Rattle.std.specs.Prelude.{List, ℕ}
use Rattle.answer.specs.Outcome.{One, Lent}
use Rattle.answer.specs.Outcome.Properties.{leaves_one}
use Rattle.plan.specs.declared.Plan.{Plan}
use Rattle.answer.specs.declared.Answer.{Answer}
use Rattle.rack.specs.declared.State.{State}
use Rattle.verdict.specs.declared.figures.Figures.{Figures}
use Rattle.images.specs.FiguresImage.{StoresFigures}
use Rattle.images.specs.Lent.{StoresPlan, StoresState, StoresRunning}

-- `put_plan`
pub put_plan_one_outcome : (plan : Plan) (image : List ℕ) → One (λ (o : Lent Answer). StoresPlan plan image o.result o.buffer)
put_plan_one_outcome plan image = leaves_one _ _

-- `put_state`
pub put_state_one_outcome : (state : State) (image : List ℕ) → One (λ (o : Lent Answer). StoresState state image o.result o.buffer)
put_state_one_outcome state image = leaves_one _ _

-- `put_running`
pub put_running_one_outcome :
    (state : State) (out : List ℕ) → One (λ (o : Lent Answer). StoresRunning state out o.result o.buffer)
put_running_one_outcome state out = leaves_one _ _

-- `put_figures`
pub put_figures_one_outcome :
    (figures : Figures) (out : List ℕ) → One (λ (o : Lent Answer). StoresFigures figures out o.result o.buffer)
put_figures_one_outcome figures out = leaves_one _ _
