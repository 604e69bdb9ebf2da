-- Which input channels of a router of a block are granted an output channel, and which one.
use Rattle.std.proofs.Common.{◌≡◌, ◌≢◌, ℕ, ◌+◌, ◌*◌, ◌/◌, ◌^◌, ◌<◌, ◌≤◌, Bool, true, false, Some, None, ap, ap₂, arith, bit_or, inl, inr, mul-le-mul_right, refl, subst, sym, ◌∙◌}
use Rattle.std.specs.Prelude.{◌⊎◌, ◌&&◌, not, if◌then◌else◌}
use Rattle.std.proofs.lemmas.Bool.{and_parts, cases_Bool, cases_eq, eq-eqb, false≢true, true≢false}
use Rattle.noc_packet.specs.Set.{has_bit}
use Rattle.noc_packet.proofs.SetLemmas.{either_members, has_bit-below, has_bit-zero}
use Rattle.noc_alloc.specs.Members.{MembersAreBelow}
use Rattle.noc_sets.specs.Column.{Column, RouterMarks}
use Rattle.noc_sets.specs.Cycle.{Still, granted_in}
use Rattle.noc_sets.specs.Grants.{Allocation, HasAllocated, IsBound, winner}
use Rattle.noc_sets.specs.Layout.{Layout}
use Rattle.noc_sets.specs.Passes.{lane_asks}
use Rattle.noc_sets.specs.Sets.{least, less}
use Rattle.noc_sets.specs.Turns.{in_turn}
use Rattle.noc_sets.proofs.MemberLemmas.{below_fits, less_members, or-right, power-members}
use Rattle.noc_sets.proofs.TurnLemmas.{first-among, first-is}
use Rattle.noc_columns.specs.declared.channels.Decided.{Decided}
use Rattle.noc_columns.specs.declared.channels.Links.{Links}
use Rattle.noc_columns.specs.declared.channels.Standing.{Standing}
use Rattle.noc_columns.proofs.AskLemmas.{asks-idle}
use Rattle.noc_columns.proofs.PickLemmas.{Found, find-first, none-each}
use Rattle.noc_cycles.specs.Deciding.{HasDecidedHeld, undecided}
use Rattle.noc_cycles.specs.Held.{Held, ShowsStill}
use Rattle.noc_cycles.specs.May.{MayDecide, owned_by}
use Rattle.noc_cycles.specs.declared.pattern.Pattern.{Pattern}
use Rattle.noc_theory_cycles.specs.Granted.{IsGranted}
use Rattle.noc_theory_cycles.proofs.NoneLemmas.{less-same}
use Rattle.noc_theory_cycles.proofs.ShownLemmas.{power-same}

-- ---- members of a set that another leaves out
-- those that were there and are no more, where `outs` were taken away
taken-away : (idle outs o : ℕ) → has_bit (less idle (less idle outs)) o ≡ (has_bit idle o && has_bit outs o)
taken-away idle outs o =
    less_members idle (less idle outs) o ∙ ap (λ b. has_bit idle o && not b) (less_members idle outs o) ∙ at (has_bit idle o) (has_bit outs o)
  where
    at : (a b : Bool) → (a && not (a && not b)) ≡ (a && b)
    at true true = refl
    at true false = refl
    at false b = refl

-- ---- grants of a router with so many channels
module _ (channels vcs : ℕ) (a b : Allocation) (few : channels ≤ 64) (grants : HasAllocated channels (λ o. o / vcs) a b)
    (waiting : MembersAreBelow channels a.column.waiting) (idle : MembersAreBelow channels a.column.idle) where
  abbrev goes_to : ℕ → ℕ → Bool
  goes_to k o = has_bit grants.outs o && has_bit (winner grants.requests a.marks o) k

  idle-fits : a.column.idle < 2 ^ 64
  idle-fits = below_fits 64 a.column.idle (λ k e. let l = idle k e in omega (arith, l, few))

  out-small : (o : ℕ) → has_bit grants.outs o ≡ true → o < 64
  out-small o e = has_bit-below grants.outs 64 o grants.outs_fit e

  out-idle : (o : ℕ) → has_bit grants.outs o ≡ true → has_bit a.column.idle o ≡ true
  out-idle o e = asks-idle (has_bit a.column.waiting) a.column.idle a.marks.set grants.requests grants.outs grants.inputs grants.wanted grants.asks grants.outs_fit idle-fits o e

  -- those that are taken away of the idle channels
  out-taken : (o : ℕ) → has_bit (less a.column.idle b.column.idle) o ≡ (has_bit a.column.idle o && has_bit grants.outs o)
  out-taken o = ap (λ (c : Column). has_bit (less a.column.idle c.idle) o) grants.column ∙ taken-away a.column.idle grants.outs o

  -- one that has a grant has it of an output channel
  granted-by : (k : ℕ) → has_bit b.granted k ≡ true → (o : ℕ) × (has_bit grants.outs o ≡ true) × (has_bit (winner grants.requests a.marks o) k ≡ true)
  granted-by k e = at (find-first 64 (goes_to k))
    where
      at : Found 64 (goes_to k) → (o : ℕ) × (has_bit grants.outs o ≡ true) × (has_bit (winner grants.requests a.marks o) k ≡ true)
      at (inr found) =
          let both = and_parts (has_bit grants.outs found.0) (has_bit (winner grants.requests a.marks found.0) k) found.2 in
          (found.0, both.0, both.1)
      at (inl none) = absurd (true≢false (sym e ∙ grants.marks.none k (λ o h. never o h (cases_Bool (has_bit (winner grants.requests a.marks o) k)))))
        where
          never : (o : ℕ) → has_bit grants.outs o ≡ true → (has_bit (winner grants.requests a.marks o) k ≡ true) ⊎ (has_bit (winner grants.requests a.marks o) k ≡ false) → has_bit (winner grants.requests a.marks o) k ≡ false
          never o h (inr f) = f
          never o h (inl t) = absurd (true≢false (sym (ap₂ (λ x y. x && y) h t) ∙ none-each 64 (goes_to k) none o (out-small o h)))

  request-waits : (o k : ℕ) → has_bit grants.outs o ≡ true → has_bit (grants.requests o) k ≡ true → has_bit a.column.waiting k ≡ true
  request-waits o k e h = (and_parts (has_bit a.column.waiting k) _ (sym (grants.asks.asked o k (out-small o e)) ∙ h)).0

  -- what is known of a channel that has one
  pub record HasOne (k : ℕ) : Type 0 where
    pub input : k < channels
    pub out : ℕ
    pub below : out < channels
    pub away : has_bit (less a.column.idle b.column.idle) out ≡ true
    pub owner : b.marks.owner out ≡ k
    pub taken : b.marks.taken k ≡ 2 ^ out

  pub has-one : (k : ℕ) → has_bit b.granted k ≡ true → HasOne k
  has-one k e =
      let one = granted-by k e in
      let bound = grants.marks.bound one.0 k one.1 one.2 in
      let free = out-idle one.0 one.1 in
      record {
        input = waiting k (request-waits one.0 k one.1 (first-among (grants.requests one.0) (a.marks.turn one.0) k one.2));
        out = one.0;
        below = idle one.0 free;
        away = out-taken one.0 ∙ ap₂ (λ x y. x && y) free one.1;
        owner = bound.owner;
        taken = bound.taken;
      }

  -- an output channel that is taken away has gone to its owner
  pub gone-to : (o : ℕ) → has_bit (less a.column.idle b.column.idle) o ≡ true → (has_bit b.granted (b.marks.owner o) ≡ true) × (b.marks.taken (b.marks.owner o) ≡ 2 ^ o)
  gone-to o e =
      subst (λ (k : ℕ). (has_bit b.granted k ≡ true) × (b.marks.taken k ≡ 2 ^ o)) (sym bound.owner) (grants.marks.given o first is_out wins, bound.taken)
    where
      is_out : has_bit grants.outs o ≡ true
      is_out = (and_parts (has_bit a.column.idle o) (has_bit grants.outs o) (sym (out-taken o) ∙ e)).1

      requests-fit : grants.requests o < 2 ^ 64
      requests-fit = below_fits 64 (grants.requests o) (λ k h. let l = waiting k (request-waits o k is_out h) in omega (arith, l, few))

      some : 0 < grants.requests o
      some = elim (cases_eq (grants.requests o) 0) [
        | inl none ↦ absurd (true≢false (sym is_out ∙ grants.asks.asked_for o (out-small o is_out) ∙ ap not (eq-eqb (grants.requests o) 0 none)))
        | inr more ↦ omega arith
      ]

      first : ℕ
      first = least (in_turn (grants.requests o) (a.marks.turn o))

      wins : has_bit (winner grants.requests a.marks o) first ≡ true
      wins = ap (λ n. has_bit n first) (first-is (grants.requests o) (a.marks.turn o) some requests-fit).2 ∙ power-members first first ∙ eq-eqb first first refl

      bound : IsBound a.marks b.marks o first (o / vcs)
      bound = grants.marks.bound o first is_out wins

-- ---- of a router of a block
module _ (pattern : Pattern) (layout : Layout) (sets : ℕ → ℕ → ℕ) (s : Still) (a h : Held) (standing : Standing ℕ) (no_credit : ℕ) (decided : Decided ℕ) (granted lost : ℕ) (left : Links ℕ) (headers nodes node : ℕ)
    (shows : ShowsStill pattern a standing no_credit s) (may : MayDecide pattern headers nodes node a standing) (has : HasDecidedHeld pattern layout sets s a h standing decided granted lost left) where
  abbrev size : ℕ
  size = (pattern.table.ports.links.width + 1) * pattern.table.ports.links.vcs

  abbrev vcs : ℕ
  vcs = pattern.table.ports.links.vcs

  abbrev g : Allocation
  g = has.choice.granted

  few : (pattern.table.ports.links.width + 1) * pattern.table.ports.links.vcs ≤ 64
  few =
      let wide : pattern.table.ports.links.width < 8 = pattern.table.ports.room in
      let deep : pattern.table.ports.links.vcs ≤ 8 = pattern.table.ports.few in
      let most : (pattern.table.ports.links.width + 1) * pattern.table.ports.links.vcs ≤ 8 * pattern.table.ports.links.vcs = mul-le-mul_right pattern.table.ports.links.vcs (omega (arith, wide)) in
      omega (arith, most, deep)

  waiting-below : MembersAreBelow ((pattern.table.ports.links.width + 1) * pattern.table.ports.links.vcs) s.column.waiting
  waiting-below = subst (MembersAreBelow size) (shows.waiting ∙ sym (ap (λ (c : Column). c.waiting) shows.column)) may.waiting

  idle-below : MembersAreBelow ((pattern.table.ports.links.width + 1) * pattern.table.ports.links.vcs) s.column.idle
  idle-below = subst (MembersAreBelow size) (sym (ap (λ (c : Column). c.idle) shows.column)) may.idle

  idle-same : has.chosen.column.idle ≡ has.choice.granted.column.idle
  idle-same = ap (λ (b : Allocation). b.column.idle) has.choice.rest

  owner-same : has.chosen.marks.owner ≡ has.choice.granted.marks.owner
  owner-same = ap (λ (m : RouterMarks). m.owner) has.choice.routed.rest

  taken-same : has.chosen.marks.taken ≡ has.choice.granted.marks.taken
  taken-same = ap (λ (m : RouterMarks). m.taken) has.choice.routed.rest

  granted-same : granted ≡ has.choice.granted.granted
  granted-same = has.granted_are ∙ ap (λ (b : Allocation). b.granted) has.choice.rest

  -- its grants, by the words of the allocation
  by-words : (o : ℕ) → granted_in (undecided s) has.chosen o ≡ (if has_bit (less s.column.idle has.choice.granted.column.idle) o then Some (has.choice.granted.marks.owner o) else None)
  by-words o = ap₂ (λ (i : ℕ) (f : ℕ → ℕ). if has_bit (less s.column.idle i) o then Some (f o) else None) idle-same owner-same

  -- the output channel of one that is granted one
  owned-out : (k o : ℕ) → has_bit granted k ≡ true → has.choice.granted.marks.taken k ≡ 2 ^ o → owned_by pattern.table.ports.links.vcs h k ≡ o
  owned-out k o e taken =
      let inside : has_bit (bit_or a.inputs.active granted) k ≡ true = either_members a.inputs.active granted k ∙ or-right (has_bit a.inputs.active k) (has_bit granted k) e in
      power-same (owned_by vcs h k) o (sym (has.owned.sends.taken k inside) ∙ ap (λ (f : ℕ → ℕ). f k) taken-same ∙ taken)

  pub grants-one : (k : ℕ) → has_bit granted k ≡ true → IsGranted pattern s h has.chosen k
  grants-one k e = at (cases_eq (lane_asks s.column) 0)
    where
      given : has_bit has.choice.granted.granted k ≡ true
      given = ap (λ m. has_bit m k) (sym granted-same) ∙ e

      at : (lane_asks s.column ≡ 0) ⊎ (lane_asks s.column ≢ 0) → IsGranted pattern s h has.chosen k
      at (inl none) = absurd (false≢true (sym (has_bit-zero k) ∙ sym (ap (λ (b : Allocation). has_bit b.granted k) (has.choice.unasked none)) ∙ given))
      at (inr some) =
          let one = has-one size vcs (undecided s) g few (has.choice.asked some) waiting-below idle-below k given in
          let out = owned-out k one.out e one.taken in
          record {
            input = one.input;
            below = subst (λ o. o < size) (sym out) one.below;
            is_granted = ap (granted_in (undecided s) has.chosen) out ∙ by-words one.out ∙ ap (λ b. if b then Some (g.marks.owner one.out) else None) one.away ∙ ap Some one.owner;
          }

  pub granted-one : (o k : ℕ) → granted_in (undecided s) has.chosen o ≡ Some k → (has_bit granted k ≡ true) × (owned_by pattern.table.ports.links.vcs h k ≡ o)
  granted-one o k e = at (cases_Bool (has_bit (less s.column.idle has.choice.granted.column.idle) o)) (cases_eq (lane_asks s.column) 0)
    where
      by : (b : Bool) → has_bit (less s.column.idle has.choice.granted.column.idle) o ≡ b → (if b then Some (has.choice.granted.marks.owner o) else None) ≡ Some k
      by b t = sym (ap (λ c. if c then Some (g.marks.owner o) else None) t) ∙ sym (by-words o) ∙ e

      never : None ≡ Some k → ⊥
      never none = cc none

      same : Some (has.choice.granted.marks.owner o) ≡ Some k → has.choice.granted.marks.owner o ≡ k
      same one = cc one

      at : (has_bit (less s.column.idle has.choice.granted.column.idle) o ≡ true) ⊎ (has_bit (less s.column.idle has.choice.granted.column.idle) o ≡ false) → (lane_asks s.column ≡ 0) ⊎ (lane_asks s.column ≢ 0)
          → (has_bit granted k ≡ true) × (owned_by pattern.table.ports.links.vcs h k ≡ o)
      at (inr f) _ = absurd (never (by false f))
      at (inl t) (inl none) =
          absurd (false≢true (sym (has_bit-zero o) ∙ sym (ap (λ w. has_bit w o) (less-same s.column.idle g.column.idle (sym (ap (λ (b : Allocation). b.column.idle) (has.choice.unasked none))))) ∙ t))
      at (inl t) (inr some) =
          let gone = gone-to size vcs (undecided s) g few (has.choice.asked some) waiting-below idle-below o t in
          let owner = same (by true t) in
          let given = ap (λ m. has_bit m k) granted-same ∙ ap (has_bit g.granted) (sym owner) ∙ gone.0 in
          (given, owned-out k o given (ap g.marks.taken (sym owner) ∙ gone.1))
