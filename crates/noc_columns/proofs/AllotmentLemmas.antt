-- Routers of a block are allocated one by one.
use Rattle.std.proofs.Common.{◌≡◌, ◌≢◌, ◌⊎◌, ℕ, ◌+◌, ◌^◌, ◌<◌, ◌≤◌, Bool, true, false, List, [], length, refl, arith, ap, ap₂, subst, sym, ◌∙◌, inl, inr, bit_or, set, slice_index_or, get_or-set_same, get_or-set_other}
use Rattle.std.specs.Prelude.{◌&&◌, nat_eq, if◌then◌else◌}
use Rattle.std.specs.Int.Bits.{or_zero_r}
use Rattle.std.proofs.lemmas.Bool.{cases_eq, cases_lt, eq-eqb, le-ltb, ne_eqb, true≢false}
use Rattle.std.proofs.Math.Pow.{pow_mono}
use Rattle.noc_packet.specs.Set.{has_bit}
use Rattle.noc_packet.proofs.SetLemmas.{has_bit-zero}
use Rattle.noc_alloc.specs.Members.{MembersAreBelow}
use Rattle.noc_sets.specs.Grants.{AreAsks}
use Rattle.noc_sets.specs.Sets.{less}
use Rattle.noc_sets.proofs.MemberLemmas.{below_fits}
use Rattle.noc_sets.proofs.TurnLemmas.{first-among}
use Rattle.noc_columns.specs.Allotted.{Allotment, HasAllotted, HasAllottedOne, MayAllot, allotment_at}
use Rattle.noc_columns.specs.Grants.{AreGranted, ArePointersPast}
use Rattle.noc_columns.specs.Picks.{channels_of}
use Rattle.noc_columns.specs.Supply.{digits_by, number_in}
use Rattle.noc_columns.specs.Words.{Numbering, set_of, word}
use Rattle.noc_columns.specs.declared.given.Grants.{Grants}
use Rattle.noc_columns.specs.declared.marks.Marks.{Marks}
use Rattle.noc_columns.specs.declared.ports.RouterPorts.{RouterPorts}
use Rattle.noc_columns.specs.declared.supply.Digits.{Digits}
use Rattle.noc_columns.proofs.AskLemmas.{asks-wait, in-word}
use Rattle.noc_columns.proofs.GrantLemmas.{granted-none}
use Rattle.noc_columns.proofs.SetLemmas.{below-members}
use Rattle.noc_columns.proofs.SupplyLemmas.{number}
use Rattle.noc_columns.proofs.TableLemmas.{less-none}

-- a set of channels of a router is a word
pub fits-below : (n set : ℕ) → n ≤ 64 → MembersAreBelow n set → set < 2 ^ 64
fits-below n set few below = let low = below_fits n set below in let mono : 2 ^ n ≤ 2 ^ 64 = pow_mono few in omega (arith, low, mono)

-- what allocation finds of a router, part by part
abbrev pub the-allotment : ℕ → ℕ → ℕ → (ℕ → ℕ) → (ℕ → ℕ) → ℕ → ℕ → (ℕ → ℕ) → (ℕ → ℕ) → Allotment
the-allotment waiting idle wanted set turn granted lost out_port out_vc = record {
  waiting = waiting;
  idle = idle;
  wanted = wanted;
  set = set;
  turn = turn;
  granted = granted;
  lost = lost;
  out_port = out_port;
  out_vc = out_vc;
}

-- two tables that have the same at each place
pub entries-same : {xs ys : List ℕ} → xs ≡ ys → ◌≡◌ {A = ℕ → ℕ} (λ k. word k xs) (λ k. word k ys)
entries-same e = λ x k. word k (e x)

pub functions-same : (f g : ℕ → ℕ) → ((k : ℕ) → f k ≡ g k) → f ≡ g
functions-same f g e = λ x k. e k x

same-allotment : {waiting waiting2 idle idle2 wanted wanted2 granted granted2 lost lost2 : ℕ} {set set2 turn turn2 out_port out_port2 out_vc out_vc2 : ℕ → ℕ}
    → waiting ≡ waiting2 → idle ≡ idle2 → wanted ≡ wanted2 → set ≡ set2 → turn ≡ turn2 → granted ≡ granted2 → lost ≡ lost2 → out_port ≡ out_port2 → out_vc ≡ out_vc2
    → the-allotment waiting idle wanted set turn granted lost out_port out_vc ≡ the-allotment waiting2 idle2 wanted2 set2 turn2 granted2 lost2 out_port2 out_vc2
same-allotment a b d e f g h p v = λ x. the-allotment (a x) (b x) (d x) (e x) (f x) (g x) (h x) (p x) (v x)

-- a number stays where it stays of the channels of the router
module _ (n : Numbering) (r k : ℕ) (old new : Digits (List ℕ)) where
  none : (words : List ℕ) → n.size ≤ k → has_bit (set_of n r words) k ≡ false
  none words l = below-members n.size (λ c. has_bit (word (n.index c) words) r) k ∙ ap (λ b. b && has_bit (word (n.index k) words) r) (le-ltb k n.size l)

  both : (v w : List ℕ) → n.size ≤ k → has_bit (set_of n r v) k ≡ has_bit (set_of n r w) k
  both v w l = none v l ∙ sym (none w l)

  number-kept : (k < n.size → number_in (digits_by (set_of n r) new) k ≡ number_in (digits_by (set_of n r) old) k) → number_in (digits_by (set_of n r) new) k ≡ number_in (digits_by (set_of n r) old) k
  number-kept below = at (cases_lt k n.size)
    where
      at : (k < n.size) ⊎ (n.size ≤ k) → number_in (digits_by (set_of n r) new) k ≡ number_in (digits_by (set_of n r) old) k
      at (inl l) = below l
      at (inr l) = λ i. number (both new.ones old.ones l i) (both new.twos old.twos l i) (both new.fours old.fours l i)

numbers-kept : (n : Numbering) (r : ℕ) (old new : Digits (List ℕ)) → ((k : ℕ) → k < n.size → number_in (digits_by (set_of n r) new) k ≡ number_in (digits_by (set_of n r) old) k)
    → ◌≡◌ {A = ℕ → ℕ} (λ k. number_in (digits_by (set_of n r) new) k) (λ k. number_in (digits_by (set_of n r) old) k)
numbers-kept n r old new below = λ x k. number-kept n r k old new (below k) x

-- a table in which one entry is written as it was
pub entry-kept : (xs : List (List ℕ)) (i r : ℕ) → i < length xs → slice_index_or (set xs i (slice_index_or xs i [])) r [] ≡ slice_index_or xs r []
entry-kept xs i r few = elim (cases_eq r i) [
  | inl same ↦ ap (λ x. slice_index_or (set xs i (slice_index_or xs i [])) x []) same ∙ get_or-set_same xs i (slice_index_or xs i []) [] few ∙ ap (λ x. slice_index_or xs x []) (sym same)
  | inr other ↦ get_or-set_other xs i r (slice_index_or xs i []) [] other
]

-- ---- one router allots its own
module _ (ports : RouterPorts) (router : ℕ) (marks after : Marks) (grants given : Grants) (lost later : List ℕ) (requests : ℕ → ℕ) (outs inputs granted wanted : ℕ)
    (may : MayAllot ports router marks grants) (fits : outs < 2 ^ 64)
    (asks : AreAsks (has_bit (word router marks.waiting)) (word router marks.idle) (λ k. word k (slice_index_or marks.sets router [])) requests outs inputs wanted)
    (are : AreGranted (channels_of ports) ports.links.vcs router (has_bit outs) requests (λ o. word o (slice_index_or marks.turns router [])) granted grants given)
    (past : ArePointersPast (has_bit outs) requests (λ o. word o (slice_index_or marks.turns router [])) (λ o. word o (slice_index_or after.turns router [])))
    (waits : (r : ℕ) → word r after.waiting ≡ (if nat_eq r router then less (word router marks.waiting) granted else word r marks.waiting))
    (wants : (r : ℕ) → word r after.wanted ≡ (if nat_eq r router then wanted else word r marks.wanted))
    (idles : (r : ℕ) → word r after.idle ≡ (if nat_eq r router then less (word router marks.idle) outs else word r marks.idle))
    (sets : (r : ℕ) → slice_index_or after.sets r [] ≡ slice_index_or marks.sets r [])
    (turns : (r : ℕ) → r ≢ router → slice_index_or after.turns r [] ≡ slice_index_or marks.turns r [])
    (loses : (r : ℕ) → set_of (channels_of ports) r later ≡ (if nat_eq r router then bit_or (set_of (channels_of ports) r lost) (less inputs granted) else set_of (channels_of ports) r lost))
    (few : given.count ≤ grants.count + 64) where
  at_router : nat_eq router router ≡ true
  at_router = eq-eqb router router refl

  here : HasAllotted ports.links.vcs (allotment_at (channels_of ports) marks grants lost router) (allotment_at (channels_of ports) after given later router)
  here =
      let n = channels_of ports in
      let idle = word router marks.idle in
      let wanted_is : word router after.wanted ≡ wanted = wants router ∙ ap (λ b. if b then wanted else word router marks.wanted) at_router in
      record {
        requests = requests;
        outs = outs;
        inputs = inputs;
        granted = granted;
        asks = subst (λ x. AreAsks (has_bit (word router marks.waiting)) idle (λ k. word k (slice_index_or marks.sets router [])) requests outs inputs x) (sym wanted_is) asks;
        given = are.given;
        none = are.none;
        numbers = λ o k a b.
            let low = may.waiting k (asks-wait _ idle _ requests _ _ _ asks o k (in-word outs o fits a) (first-among (requests o) _ k b)) in
            are.numbers o k low a b;
        kept = λ k e. (
          number-kept n router k grants.sends.port given.sends.port (λ l. (are.kept router k l (ap₂ (λ x y. x && y) at_router e)).0),
          number-kept n router k grants.sends.vc given.sends.vc (λ l. (are.kept router k l (ap₂ (λ x y. x && y) at_router e)).1),
        );
        turns = past.past;
        others = past.others;
        outs_fit = fits;
        waiting = waits router ∙ ap (λ b. if b then less (word router marks.waiting) granted else word router marks.waiting) at_router;
        idle = idles router ∙ ap (λ b. if b then less idle outs else idle) at_router;
        set = entries-same (sets router);
        granted_is = are.bits router ∙ ap (λ b. if b then bit_or (set_of n router grants.granted) granted else set_of n router grants.granted) at_router;
        lost_is = loses router ∙ ap (λ b. if b then bit_or (set_of n router lost) (less inputs granted) else set_of n router lost) at_router;
      }

  elsewhere : (r : ℕ) → r ≢ router → allotment_at (channels_of ports) after given later r ≡ allotment_at (channels_of ports) marks grants lost r
  elsewhere r other =
      let n = channels_of ports in
      let apart : nat_eq r router ≡ false = ne_eqb r router other in
      same-allotment
      (waits r ∙ ap (λ b. if b then less (word router marks.waiting) granted else word r marks.waiting) apart)
      (idles r ∙ ap (λ b. if b then less (word router marks.idle) outs else word r marks.idle) apart)
      (wants r ∙ ap (λ b. if b then wanted else word r marks.wanted) apart)
      (entries-same (sets r))
      (entries-same (turns r other))
      (are.bits r ∙ ap (λ b. if b then bit_or (set_of n r grants.granted) granted else set_of n r grants.granted) apart)
      (loses r ∙ ap (λ b. if b then bit_or (set_of n r lost) (less inputs granted) else set_of n r lost) apart)
      (numbers-kept n r grants.sends.port given.sends.port (λ k l. (are.kept r k l (ap (λ b. b && has_bit granted k) apart)).0))
      (numbers-kept n r grants.sends.vc given.sends.vc (λ k l. (are.kept r k l (ap (λ b. b && has_bit granted k) apart)).1))

  pub allotted-one : HasAllottedOne ports router marks after grants given lost later
  allotted-one = record { here = here; others = elsewhere; few = few }

-- ---- one router in which nobody finds an idle channel
pub allotted-none : (ports : RouterPorts) (router : ℕ) (marks after : Marks) (grants : Grants) (lost : List ℕ) (requests : ℕ → ℕ) (wanted : ℕ) → MayAllot ports router marks grants
    → AreAsks (has_bit (word router marks.waiting)) (word router marks.idle) (λ k. word k (slice_index_or marks.sets router [])) requests 0 0 wanted
    → ((r : ℕ) → word r after.waiting ≡ (if nat_eq r router then word router marks.waiting else word r marks.waiting))
    → ((r : ℕ) → word r after.wanted ≡ (if nat_eq r router then wanted else word r marks.wanted))
    → ((r : ℕ) → word r after.idle ≡ (if nat_eq r router then word router marks.idle else word r marks.idle))
    → ((r : ℕ) → slice_index_or after.sets r [] ≡ slice_index_or marks.sets r [])
    → ((r : ℕ) → slice_index_or after.turns r [] ≡ slice_index_or marks.turns r [])
    → HasAllottedOne ports router marks after grants grants lost lost
allotted-none ports router marks after grants lost requests wanted may asks waits wants idles sets turns =
    let n = channels_of ports in
    allotted-one ports router marks after grants grants lost lost requests 0 0 0 wanted may (omega arith) asks
    (granted-none n ports.links.vcs router (has_bit 0) requests (λ o. word o (slice_index_or marks.turns router [])) grants has_bit-zero)
    (record {
      past = λ o k i a b l. absurd (true≢false (sym a ∙ has_bit-zero o));
      others = λ o e. ap (word o) (turns router);
    })
    (λ r. waits r ∙ ap (λ x. if nat_eq r router then x else word r marks.waiting) (sym (less-none (word router marks.waiting) 0 refl)))
    wants
    (λ r. idles r ∙ ap (λ x. if nat_eq r router then x else word r marks.idle) (sym (less-none (word router marks.idle) 0 refl)))
    sets (λ r other. turns r)
    (λ r. kept (set_of n r lost) (nat_eq r router))
    (omega arith)
  where
    kept : (a : ℕ) (b : Bool) → a ≡ (if b then bit_or a (less 0 0) else a)
    kept a true = sym (or_zero_r a)
    kept a false = refl
