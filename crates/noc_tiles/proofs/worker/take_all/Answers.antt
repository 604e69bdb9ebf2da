use Rattle.std.proofs.Common.{◌≡◌, ◌⊎◌, inl, inr, ℕ, ◌+◌, ◌<◌, ◌≤◌, List, [], length, get_or, ap, ◌∙◌, ⊎_elim, arith, subst}
use Rattle.std.proofs.lemmas.Bool.{cases_lt}
use Rattle.noc_packet.specs.declared.packet.Beat.{Beat}
use Rattle.noc_view.specs.View.{View, idle_beat, view_after_takes}
use Rattle.noc_theory.specs.Halves.{beat_at, incoming}
use Rattle.noc_theory.proofs.runs.ListLemmas.{IsDoneTo, done_all}
use Rattle.noc_tiles.proofs.SentLemmas.{own-false}
use Rattle.noc_tiles.proofs.worker.take_all.Goals as goal

pub returns-clause-routers : goal.returns-clause-routers
returns-clause-routers c =
    let take = λ (k : ℕ) (v : View). view_after_takes c.args.relation.now (incoming c.args.relation.now.grid (get_or c.args.beats.now (c.args.first + k) [])) v in
    let end : c.loop-i.i ≡ length c.args.routers.now = omega (arith, c.loop-i.auto.i-end) in
    done_all take c.args.routers.now c.loop-i.routers (subst (λ (k : ℕ). IsDoneTo take c.args.routers.now c.loop-i.routers k) end c.loop-i.invariant.routers)

pub returns-clause-silent : goal.returns-clause-silent
returns-clause-silent c = λ r q.
    let v = c.loop-i.invariant in
    let end : c.loop-i.i ≡ length c.args.routers.now = omega (arith, c.loop-i.auto.i-end) in
    let other : (r < c.args.first) ⊎ (c.args.first + c.loop-i.i ≤ r) → beat_at c.loop-i.beats r q ≡ idle_beat =
    λ out. ap (λ (row : List Beat). get_or row q idle_beat) (v.others r [] out)
    ∙ c.requires.others r q (own-false c.args.first (length c.args.routers.now) r (subst (λ k. (r < c.args.first) ⊎ (c.args.first + k ≤ r)) end out)) in
    ⊎_elim (λ (l : r < c.args.first). other (inl l))
    (λ (u : c.args.first ≤ r).
    ⊎_elim (λ (l : r < c.args.first + c.loop-i.i). v.silent r q u l) (λ (past : c.args.first + c.loop-i.i ≤ r). other (inr past)) (cases_lt r (c.args.first + c.loop-i.i)))
    (cases_lt r c.args.first)
