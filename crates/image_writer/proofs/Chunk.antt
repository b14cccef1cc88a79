-- What is stored in the first n bytes of a buffer is stored at its front.
-- Assumes nothing.
use Rattle.std.specs.Prelude.{◌≡◌, List, ◌++◌, ℕ, ◌≤◌, length, take, drop}
use Rattle.std.specs.Array.{IsFirstChunk}
use Rattle.std.proofs.Common.{sym, ap, ◌∙◌, append-nil, arith, length-take-le, length-append, drop_at}
use Rattle.std.proofs.Math.ListN.{drop_of_length-le}
use Rattle.std.proofs.Math.Seq.{take-take}
use Rattle.answer.specs.declared.Answer.{Answer}
use Rattle.answer.specs.declared.Answer.TheVariants.{Good}
use Rattle.answer.specs.Answer.{if_good}
use Rattle.rack.specs.declared.State.{State}
use Rattle.images.specs.Image.{plan_size, state_size, plan_image, state_image, running_over}
use Rattle.images.specs.Image.Properties.{image_split}
use Rattle.images.specs.Lent.{room, StoresPlan, StoresState, StoresRunning}
use Rattle.images.specs.Lent.Properties.{long_room, stores_good, running_good}

-- an image that fills its buffer
pub filled : (image out : List ℕ) (n : ℕ) → length out ≤ n → image ++ drop n out ≡ image
filled image out n l = ap (λ (x : List ℕ). image ++ x) (drop_of_length-le out l) ∙ append-nil image

module _ (s : State) (old y : List ℕ) (chunk : IsFirstChunk old y state_size) where
  rest : List ℕ
  rest = drop plan_size (state_image s)

  size : length y ≡ state_size
  size = ap length chunk.same ∙ length-take-le state_size old chunk.enough

  -- what follows the plan, behind what stands there
  behind : running_over s y ≡ take plan_size y ++ rest
  unfolding rest
  behind = filled (take plan_size y ++ rest) y state_size (omega (arith, size))

  pub running_stored : (after : List ℕ) → after ≡ running_over s y → StoresRunning s old Good (after ++ drop state_size old)
  unfolding rest
  running_stored after e =
      let front : take plan_size y ≡ take plan_size old =
      ap (take plan_size) chunk.same ∙ take-take plan_size state_size old (omega arith) in
      running_good s old (after ++ drop state_size old) chunk.enough
      (ap (λ (x : List ℕ). x ++ drop state_size old) (e ∙ behind ∙ ap (λ (x : List ℕ). x ++ rest) front))

  -- and then the plan
  pub state_stored : (mid after : List ℕ) (x : Answer) → mid ≡ running_over s y → StoresPlan s.plan mid x after
      → StoresState s old x (after ++ drop state_size old)
  unfolding rest
  state_stored mid after x e t =
      let long : length (take plan_size y) ≡ plan_size = length-take-le plan_size y (omega (arith, size)) in
      let m : mid ≡ take plan_size y ++ rest = e ∙ behind in
      let enough : plan_size ≤ length mid = omega (arith, ap length m, length-append (take plan_size y) rest, long) in
      let good : Good ≡ room mid plan_size = long_room mid plan_size enough in
      let stored : after ≡ plan_image s.plan ++ drop plan_size mid =
      t.buffer ∙ ap (λ (a : Answer). if_good a (plan_image s.plan ++ drop plan_size mid) mid) (sym good) in
      let same : after ≡ state_image s =
      stored
      ∙ ap (λ (z : List ℕ). plan_image s.plan ++ z) (ap (drop plan_size) m ∙ drop_at (take plan_size y) rest plan_size long)
      ∙ sym (image_split s) in
      rw (t.result ∙ sym good)
      (stores_good (state_image s) state_size old (after ++ drop state_size old) chunk.enough
      (ap (λ (z : List ℕ). z ++ drop state_size old) same))
