-- `plan::Plan::projects_in_range` meets its contract.
-- Assumes nothing.
use Rattle.std.specs.Prelude.{◌≡◌, ◌≤◌}
use Rattle.std.proofs.Common.{rules, get_or-take, arith, sym, ap, ◌∙◌}
use borrow.Author.Rules.{Fits-under}
use Rattle.laws.specs.Sum.Properties.{sum_none, sum_again, sum_stop}
use Rattle.answer.specs.Answer.Properties.{each_none, each_more, each_stop, each_opened}
use Rattle.answer.specs.declared.Answer.{Answer}
use Rattle.answer.specs.declared.Answer.TheVariants.{Good, No}
use Rattle.answer.specs.declared.Refusal.{Refusal}
use Rattle.plan.specs.declared.Project.{Project}
use Rattle.plan.specs.Record.{no_project}
use Rattle.plan.specs.Order.{budgets}
use Rattle.plan.specs.Open.Properties.{but_is, but_each}
use Rattle.plan.proofs.Plan.projects_in_range.Goals as goal

not_both : {A : Type 0} (r : Answer) (w : Refusal) → r ≡ No w → r ≡ Good → A
not_both r w e g = cc

pub loop-j-init : goal.loop-j-init
loop-j-init c = (each_none _, sum_none _, omega arith)

pub returns-then-not-in_range : goal.returns-then-not-in_range
returns-then-not-in_range c =
    let l = c.loop-j in
    let h = rw (get_or-take c.from.result c.args.self.now.project l.j _ (omega arith)) at c.in_range.ensures in
    let e = but_is c.args.skipped c.args.self.now l.j _ _ c.eq.ensures h in (
      each_opened _ _ _ _ _ l.invariant.0 c.at_project.ensures (c.at_project.ensures ∙ rw c.if-not-in_range.true at e) (omega arith)
          ∙ sym (but_each _ _),
      λ g. not_both _ _ c.at_project.ensures g,
    )

pub overflow_add-sum : goal.overflow_add-sum
overflow_add-sum c =
    let b : c.from-sum.result ≤ 65535 = search rules in
    Fits-under _ _ 524281 (omega (arith, b)) tt

pub loop-j-preserved : goal.loop-j-preserved
loop-j-preserved c =
    let l = c.loop-j in
    let k = get_or-take c.from.result c.args.self.now.project l.j no_project (omega arith) in
    let h = rw k at c.in_range.ensures in
    let e = but_is c.args.skipped c.args.self.now l.j _ _ c.eq.ensures h in (
      each_more _ _ l.invariant.0 (rw c.if-not-in_range.false at e),
      sum_again _ _ _ _ l.invariant.1 (c.from-sum.ensures ∙ ap (λ (v : Project). v.budget) k),
      (let b : c.from-sum.result ≤ 65535 = search rules in omega (arith, b)),
    )

pub returns : goal.returns
unfolding budgets
returns c =
    let v = c.loop-j.invariant in (
      each_stop _ _ _ _ v.0 (omega arith) (omega arith) ∙ sym (but_each _ _),
      λ g. sum_stop _ _ _ _ v.1 (omega arith) (omega arith),
    )
