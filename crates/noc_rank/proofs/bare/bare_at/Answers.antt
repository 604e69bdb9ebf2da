use Rattle.std.proofs.Common.{◌≡◌, ◌*◌, ◌∙◌, ℕ, ap, sym, subst, arith, true, false}
use Rattle.std.specs.Prelude.{nat_eq}
use Rattle.std.proofs.lemmas.Bool.{false≢true}
use Rattle.noc_packet.specs.Set.{has_bit}
use Rattle.noc_topo.specs.Shape.{ports}
use Rattle.noc_route.specs.Routes.{set_at}
use Rattle.noc_rank.specs.NoEscape.{IsBareSet}
use Rattle.noc_route.proofs.BuiltLemmas.{some_member}
use Rattle.noc_rank.proofs.BareLemmas.{class-known}
use Rattle.noc_rank.proofs.bare.bare_at.Goals as goal
use Rattle.noc_rank.proofs.bare.bare_at.Goals.{then-entry-via-then-entry, then-entry-via-else-entry+then-is_empty, then-entry-via-else-entry+else-is_empty+then-has_rank}

pub permitted-set-requires-clause-class : goal.permitted-set-requires-clause-class
permitted-set-requires-clause-class c =
    rw c.entry_of-entry.ensures.value (class-known c.args.ranked.now.relation.now c.args.number (omega (arith, c.entry_of-entry.ensures.nodes)) (omega (arith, c.entry_of-entry.ensures.ports)) (omega (arith, c.entry_of-entry.ensures.vcs)) c.requires)

pub returns-then-entry-clause-none : goal.returns-then-entry-clause-none
returns-then-entry-clause-none c = λ bare.
    let mine : IsBareSet c.args.ranked.now.relation.now c.args.ranked.now.ranks.now c.entry_of-entry.result = subst (IsBareSet c.args.ranked.now.relation.now c.args.ranked.now.ranks.now) (sym c.entry_of-entry.ensures.value) bare in
    elim c.then-entry.branch [
      | then-entry-via-then-entry w ↦ mine.away w.if-entry.true
      | then-entry-via-else-entry+then-is_empty w ↦
          let empty = w.if-is_empty.ensures.members.0 (sym w.if-is_empty.true ∙ w.if-is_empty.true) in
          false≢true (sym (empty mine.index) ∙ ap (λ s. has_bit s mine.index) c.permitted-set.ensures.value ∙ mine.some)
      | then-entry-via-else-entry+else-is_empty+then-has_rank w ↦
          let has = w.has_rank.ensures.yes w.if-has_rank.true in
          mine.none has.0 has.1 (record { member = ap (λ s. has_bit s has.0) (sym c.permitted-set.ensures.value) ∙ has.2.member; ranked = has.2.ranked })
    ]

-- a set that is not empty has a member
some : (c : goal.Else-has_rank) → (k : ℕ) × (has_bit (set_at c.args.ranked.now.relation.now c.entry_of-entry.result.class c.entry_of-entry.result.router c.entry_of-entry.result.in_port c.entry_of-entry.result.in_vc c.entry_of-entry.result.dst) k ≡ true)
some c =
    let filled : nat_eq c.permitted-set.result 0 ≡ false = sym c.is_empty.ensures.bits ∙ c.if-is_empty.false in
    let found = some_member c.permitted-set.result (ports c.args.ranked.now.relation.now.grid * c.args.ranked.now.relation.now.vcs) (λ k h. c.entry_of-entry.ensures.built.real _ _ _ _ _ k (ap (λ s. has_bit s k) (sym c.permitted-set.ensures.value) ∙ h)) filled in
    (found.0, ap (λ s. has_bit s found.0) (sym c.permitted-set.ensures.value) ∙ found.1)

pub returns-clause-some : goal.returns-clause-some
returns-clause-some c = (
  c.entry_of-entry.ensures.value,
  record {
    away = c.if-entry.false;
    index = (some c).0;
    some = (some c).1;
    none = λ i l has. c.has_rank.ensures.no c.if-has_rank.false i l (record { member = ap (λ s. has_bit s i) c.permitted-set.ensures.value ∙ has.member; ranked = has.ranked });
  },
)

pub returns-then-entry-clause-some : goal.returns-then-entry-clause-some
returns-then-entry-clause-some c = tt

pub returns-clause-none : goal.returns-clause-none
returns-clause-none c = tt
