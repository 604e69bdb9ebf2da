use Rattle.std.proofs.Common.{◌≡◌, ◌≢◌, ◌⊎◌, ℕ, ◌+◌, ◌*◌, ◌<◌, ◌≤◌, ◌∙◌, ap, arith, refl, set, bit_and, inl, inr, slice_index}
use Rattle.std.specs.Prelude.{◌&&◌, nat_eq}
use Rattle.std.proofs.lemmas.List.{length-set}
use Rattle.noc_packet.specs.Set.{has_bit}
use Rattle.noc_packet.proofs.SetLemmas.{both_members}
use Rattle.noc_columns.specs.Supply.{digits_by, number_in}
use Rattle.noc_columns.specs.Words.{word}
use Rattle.noc_columns.proofs.PassLemmas.{all-next, word-here, word-other}
use Rattle.noc_columns.proofs.PickLemmas.{within}
use Rattle.noc_columns.proofs.switch.send_by.Goals as goal

pub loop-q-preserved : goal.loop-q-preserved
loop-q-preserved c =
    let q = c.loop-q.q in
    let inv = c.loop-q.invariant in
    let links = c.args.links.now in
    let taken = c.args.taken.now in
    let v = c.args.v in
    let at = links.first + v * links.width in
    let i = at + q in
    let row = within v links.vcs links.width c.requires.vc in
    let few : i < 72 = omega (arith, row) in
    let flits = c.having-flits.result in
    let tails = bit_and flits (slice_index taken.tail q) in
    let told = λ (r : ℕ). c.having-flits.ensures r ∙ ap (λ d. has_bit (slice_index taken.any q) r && nat_eq (number_in d r) v) c.of_port.ensures in
    record {
      flits_size = length-set c.loop-q.left.flits i flits ∙ inv.flits_size;
      tails_size = length-set c.loop-q.left.tails i tails ∙ inv.tails_size;
      flits = all-next (λ k. (r : ℕ) → has_bit (word (at + k) (set c.loop-q.left.flits i flits)) r ≡ (has_bit (slice_index taken.any k) r && nat_eq (number_in (digits_by (word k) taken.vc) r) v)) q
          (λ k l r. ap (λ w. has_bit w r) (word-other c.loop-q.left.flits i flits (at + k) (omega (arith, l))) ∙ inv.flits k l r)
          (λ r. ap (λ w. has_bit w r) (word-here c.loop-q.left.flits i flits inv.flits_size few) ∙ told r);
      tails = all-next (λ k. (r : ℕ) → has_bit (word (at + k) (set c.loop-q.left.tails i tails)) r ≡ ((has_bit (slice_index taken.any k) r && nat_eq (number_in (digits_by (word k) taken.vc) r) v) && has_bit (slice_index taken.tail k) r)) q
          (λ k l r. ap (λ w. has_bit w r) (word-other c.loop-q.left.tails i tails (at + k) (omega (arith, l))) ∙ inv.tails k l r)
          (λ r. ap (λ w. has_bit w r) (word-here c.loop-q.left.tails i tails inv.tails_size few) ∙ both_members flits (slice_index taken.tail q) r ∙ ap (λ b. b && has_bit (slice_index taken.tail q) r) (told r));
      others = λ k o.
          let other : k ≢ i = elim o [ inl l ↦ omega (arith, l) | inr m ↦ omega (arith, m) ] in
          let far : (k < at) ⊎ (at + q ≤ k) = elim o [ inl l ↦ inl l | inr m ↦ inr (omega (arith, m)) ] in
          (word-other c.loop-q.left.flits i flits k other ∙ (inv.others k far).0, word-other c.loop-q.left.tails i tails k other ∙ (inv.others k far).1);
      rest = inv.rest;
    }

pub returns-clause-flits : goal.returns-clause-flits
returns-clause-flits c = λ q r l. c.loop-q.invariant.flits q (omega arith) r

pub returns-clause-tails : goal.returns-clause-tails
returns-clause-tails c = λ q r l. c.loop-q.invariant.tails q (omega arith) r

pub loop-q-init : goal.loop-q-init
loop-q-init c = record {
  flits_size = omega arith;
  tails_size = omega arith;
  flits = λ k l. absurd (omega (arith, l));
  tails = λ k l. absurd (omega (arith, l));
  others = λ k o. (refl, refl);
  rest = refl;
}

pub overflow_mul-at : goal.overflow_mul-at
overflow_mul-at c = omega (arith, within c.args.v c.args.links.now.vcs c.args.links.now.width c.requires.vc)

pub overflow_add-at : goal.overflow_add-at
overflow_add-at c = omega (arith, within c.args.v c.args.links.now.vcs c.args.links.now.width c.requires.vc)

pub overflow_add-left : goal.overflow_add-left
overflow_add-left c = omega (arith, within c.args.v c.args.links.now.vcs c.args.links.now.width c.requires.vc)

pub offset_bounds-left-at : goal.offset_bounds-left-at
offset_bounds-left-at c = omega (arith, within c.args.v c.args.links.now.vcs c.args.links.now.width c.requires.vc)

pub bounds-left-at : goal.bounds-left-at
bounds-left-at c = omega (arith, within c.args.v c.args.links.now.vcs c.args.links.now.width c.requires.vc)

pub overflow_add-left-in-loop-q : goal.overflow_add-left-in-loop-q
overflow_add-left-in-loop-q c = omega (arith, within c.args.v c.args.links.now.vcs c.args.links.now.width c.requires.vc)

pub offset_bounds-left-at-in-loop-q : goal.offset_bounds-left-at-in-loop-q
offset_bounds-left-at-in-loop-q c = omega (arith, within c.args.v c.args.links.now.vcs c.args.links.now.width c.requires.vc)

pub bounds-left-at-in-loop-q : goal.bounds-left-at-in-loop-q
bounds-left-at-in-loop-q c = omega (arith, within c.args.v c.args.links.now.vcs c.args.links.now.width c.requires.vc)

pub returns-clause-others : goal.returns-clause-others
returns-clause-others c = λ k o.
    c.loop-q.invariant.others k (elim o [ inl l ↦ inl l | inr m ↦ inr (omega (arith, m)) ])

pub returns-clause-rest : goal.returns-clause-rest
returns-clause-rest c = c.loop-q.invariant.rest
