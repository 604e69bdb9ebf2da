use Rattle.std.proofs.Common.{◌≡◌, ◌/◌, ◌%◌, ◌<◌, ◌*◌, true, false, ℕ, sym, subst, ◌∙◌, arith}
use Rattle.std.proofs.lemmas.Bool.{false≢true}
use Rattle.noc_topo.specs.Shape.{nodes, local_port}
use Rattle.noc_route.specs.Ranks.{is_channel}
use Rattle.noc_rank.specs.Entered.{IsFirstGap}
use Rattle.noc_rank.specs.declared.fault.RankFault.TheVariants.{MissingChannel}
use Rattle.noc_rank.proofs.IndexLemmas.{vcs-some}
use Rattle.noc_rank.proofs.RowLemmas.{IsWhole-more, IsFirstGap-here}
use Rattle.noc_rank.proofs.rows.missing.Goals as goal
use Rattle.noc_rank.proofs.rows.missing.Goals.{else-not-named-index-via-then-not-named-index+else-is_channel, else-not-named-index-via-else-not-named-index}

pub returns-then-is_channel-clause-some : goal.returns-then-is_channel-clause-some
returns-then-is_channel-clause-some c =
    let g = c.args.shape.now in
    let n = c.loop-index.index in
    let some : 0 < c.args.vcs = vcs-some (nodes g * local_port g) c.args.vcs n (omega (arith, c.requires)) in
    let P : ℕ → Type 0 = λ ports. IsFirstGap g c.args.vcs c.args.named.now (MissingChannel (n / c.args.vcs / ports) (n / c.args.vcs % ports) (n % c.args.vcs)) in
    let there : is_channel g c.args.vcs (n / c.args.vcs / local_port g) (n / c.args.vcs % local_port g) (n % c.args.vcs) ≡ true = rw c.link_ports-ports.ensures.value at (sym c.is_channel.ensures ∙ c.if-is_channel.true) in
    subst P (sym c.link_ports-ports.ensures.value) (IsFirstGap-here g c.args.vcs c.args.named.now n some (omega (arith, c.link_ports-ports.ensures.value, c.link_ports-ports.ensures.some)) there c.if-not-named-index.true c.loop-index.invariant)

pub loop-index-preserved : goal.loop-index-preserved
loop-index-preserved c =
    let g = c.args.shape.now in
    let n = c.loop-index.index in
    IsWhole-more g c.args.vcs c.args.named.now n
    (λ there.
    elim c.else-not-named-index.branch [
      | else-not-named-index-via-then-not-named-index+else-is_channel w ↦
          let unlike : is_channel g c.args.vcs (n / c.args.vcs / local_port g) (n / c.args.vcs % local_port g) (n % c.args.vcs) ≡ false = rw c.link_ports-ports.ensures.value at (sym w.is_channel.ensures ∙ w.if-is_channel.false) in
          absurd (false≢true (sym unlike ∙ there))
      | else-not-named-index-via-else-not-named-index w ↦ w.if-not-named-index.false
    ])
    c.loop-index.invariant

pub loop-index-init : goal.loop-index-init
loop-index-init c = λ r p v there l. absurd (omega arith)

pub nonzero_div-router : goal.nonzero_div-router
nonzero_div-router c = vcs-some (nodes c.args.shape.now * local_port c.args.shape.now) c.args.vcs c.loop-index.index (let P : ℕ → Type 0 = λ n. c.loop-index.index < n in subst P c.requires c.loop-index-test.true)

pub nonzero_div-router-in-loop-index : goal.nonzero_div-router-in-loop-index
nonzero_div-router-in-loop-index c = omega (arith, c.link_ports-ports.ensures.some)

pub bounds-named-index : goal.bounds-named-index
bounds-named-index c = c.loop-index-test.true

pub returns-then-is_channel-clause-none : goal.returns-then-is_channel-clause-none
returns-then-is_channel-clause-none c = tt

pub returns-clause-none : goal.returns-clause-none
returns-clause-none c = λ r p v there l. c.loop-index.invariant r p v there (omega (arith, l, c.loop-index-test.false))

pub returns-clause-some : goal.returns-clause-some
returns-clause-some c = tt

pub nonzero_div-port : goal.nonzero_div-port
nonzero_div-port c = vcs-some (nodes c.args.shape.now * local_port c.args.shape.now) c.args.vcs c.loop-index.index (let P : ℕ → Type 0 = λ n. c.loop-index.index < n in subst P c.requires c.loop-index-test.true)

pub nonzero_rem-port : goal.nonzero_rem-port
nonzero_rem-port c = omega (arith, c.link_ports-ports.ensures.some)

pub nonzero_rem-vc : goal.nonzero_rem-vc
nonzero_rem-vc c = vcs-some (nodes c.args.shape.now * local_port c.args.shape.now) c.args.vcs c.loop-index.index (let P : ℕ → Type 0 = λ n. c.loop-index.index < n in subst P c.requires c.loop-index-test.true)
