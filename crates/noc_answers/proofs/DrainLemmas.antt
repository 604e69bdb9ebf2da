-- Where a run ends that drains, piece by piece.
use Rattle.std.proofs.Common.{◌≡◌, ℕ, zero, suc, ◌+◌, ◌-◌, ◌*◌, ◌<◌, ◌≤◌, Bool, true, false, length, max, min, refl, ap, sym, ◌∙◌, subst, arith, inl, inr}
use Rattle.std.specs.Prelude.{◌⊎◌}
use Rattle.std.proofs.lemmas.Bool.{cases_lt, cases_order, false≢true}
use Rattle.noc_route.specs.Ranks.{IsRankedBy, Ranking}
use Rattle.noc_theory.specs.Good.{IsGoodSetup}
use Rattle.noc_net.specs.Limit.{IsLimit}
use Rattle.noc_theory.specs.Network.{Run, Setup, packet_at, state_at}
use Rattle.noc_theory.specs.Progress.{NoneDue, events}
use Rattle.noc_theory.proofs.worms.BuiltLemmas.{well-formed}
use Rattle.noc_theory.proofs.budget.UnchangedLemmas.{state-until}
use Rattle.noc_net.proofs.LimitLemmas.{all-out, limit-once, limit-some}
use Rattle.noc_requests.specs.Drain.{DrainsAt, DrainsBy, RunsTo, at_limit, at_once, is_out_at, look, once_out}

module _ (net : Setup) (limit : ℕ) where
  -- where it ends at once: at the limit, or where every packet is out
  pub drains-here : (n : ℕ) → (limit ≤ n) ⊎ (is_out_at net n ≡ true) → DrainsBy net limit n n
  drains-here n (inl late) = at_once late
  drains-here n (inr out) = at (cases_lt n (limit))
    where
      at : (n < limit) ⊎ (limit ≤ n) → DrainsBy net limit n n
      at (inr late) = at_once late
      at (inl early) =
          let first : look n 0 ≡ n = omega arith in
          subst (DrainsBy net limit n) first
          (once_out 0 (omega arith) (ap (is_out_at net) first ∙ out) (λ j l. absurd (omega arith)))

  -- looks from a piece later on are those from here on, but for the one here
  later : (n e k : ℕ) → e ≡ look n 1 → look e k ≡ look n (suc k)
  later n e k is = omega (arith, is)

  none-yet : (n e m : ℕ) → is_out_at net n ≡ false → e ≡ look n 1 → ((j : ℕ) → j < m → is_out_at net (look e j) ≡ false) → (j : ℕ) → j < suc m → is_out_at net (look n j) ≡ false
  none-yet n e m here is none zero l = (let first : look n 0 ≡ n = omega arith in ap (is_out_at net) first ∙ here)
  none-yet n e m here is none (suc j) l = ap (is_out_at net) (sym (later n e j is)) ∙ none j (omega arith)

  -- where it ends that goes on from the next piece
  pub drains-on : (n e end : ℕ) → n < limit → is_out_at net n ≡ false → e ≡ n + min 64 (limit - n) → DrainsBy net limit e end → DrainsBy net limit n end
  drains-on n e end early here is (at_once late) =
      let whole : e ≡ limit = omega (arith, is, late) in
      subst (DrainsBy net limit n) (sym whole) (at_limit early none)
    where
      none : (j : ℕ) → look n j < limit → is_out_at net (look n j) ≡ false
      none zero l = (let first : look n 0 ≡ n = omega arith in ap (is_out_at net) first ∙ here)
      none (suc j) l = absurd (omega (arith, is, late, l))
  drains-on n e end early here is (once_out k low out none) =
      let next : e ≡ look n 1 = omega (arith, is, low) in
      let same = later n e k next in
      subst (DrainsBy net limit n) (sym same)
      (once_out (suc k) (subst (λ x. x < limit) same low) (ap (is_out_at net) (sym same) ∙ out) (none-yet n e k here next none))
  drains-on n e end early here is (at_limit low none) = at_limit early out
    where
      next : e ≡ look n 1
      next = omega (arith, is, low)

      out : (j : ℕ) → look n j < limit → is_out_at net (look n j) ≡ false
      out zero l = (let first : look n 0 ≡ n = omega arith in ap (is_out_at net) first ∙ here)
      out (suc j) l = (let same = later n e j next in ap (is_out_at net) (sym same) ∙ none j (subst (λ x. x < limit) (sym same) l))

  -- the same, where the next piece ends at a later look, and not every packet
  -- is out at the looks before
  pub drains-over : (k n e end : ℕ) → n < limit → ((j : ℕ) → j ≤ k → is_out_at net (look n j) ≡ false) → e ≡ n + min ((k + 1) * 64) (limit - n) → DrainsBy net limit e end → DrainsBy net limit n end
  drains-over zero n e end early none is rest = drains-on n e end early (let first : n ≡ look n 0 = omega arith in ap (is_out_at net) first ∙ none 0 (omega arith)) (omega (arith, is)) rest
  drains-over (suc k) n e end early none is rest =
      let next : n + 64 ≡ look n 1 = omega arith in
      at (cases_lt (n + 64) limit)
      (λ more. drains-over k (n + 64) e end more (λ j l. ap (is_out_at net) (later n (n + 64) j next) ∙ none (suc j) (omega arith)) (omega (arith, is)) rest)
    where
      here : is_out_at net n ≡ false
      here = let first : n ≡ look n 0 = omega arith in ap (is_out_at net) first ∙ none 0 (omega arith)

      at : (n + 64 < limit) ⊎ (limit ≤ n + 64) → (n + 64 < limit → DrainsBy net limit (n + 64) end) → DrainsBy net limit n end
      at (inl more) further = drains-on n (n + 64) end early here (omega arith) (further more)
      at (inr last) further = drains-on n e end early here (omega (arith, is)) rest

  -- where it ends that goes on from the end of a piece, over looks at which not every packet is out
  pub drains-waiting : (n waiting ahead cycles end : ℕ) → n < limit → ((k : ℕ) → k ≤ waiting → is_out_at net (n + k) ≡ false)
      → (k : ℕ) × (ahead ≡ (k + 1) * 64) × (k * 64 < max waiting 1) → cycles ≡ min ahead (limit - n) → DrainsBy net limit (n + cycles) end → DrainsBy net limit n end
  drains-waiting n waiting ahead cycles end early none step piece rest =
      drains-over step.0 n (n + cycles) end early (λ j l. none (j * 64) (omega (arith, step.2, l))) (omega (arith, piece, step.1)) rest

  -- a run that drains has one end
  pub drains-once : (n d e : ℕ) → DrainsBy net limit n d → DrainsBy net limit n e → d ≡ e
  drains-once n d e (at_once late) (at_once also) = refl
  drains-once n d e (at_once late) (once_out k low out none) = absurd (omega (arith, late, low))
  drains-once n d e (at_once late) (at_limit low none) = absurd (omega (arith, late, low))
  drains-once n d e (once_out k low out none) (at_once late) = absurd (omega (arith, late, low))
  drains-once n d e (once_out k low out none) (once_out j below also others) =
      elim (cases_order k j) [
        | inl same ↦ ap (look n) same
        | inr (inl less) ↦ absurd (false≢true (sym (others k less) ∙ out))
        | inr (inr more) ↦ absurd (false≢true (sym (none j more) ∙ also))
      ]
  drains-once n d e (once_out k low out none) (at_limit early never) = absurd (false≢true (sym (never k low) ∙ out))
  drains-once n d e (at_limit low none) (at_once late) = absurd (omega (arith, late, low))
  drains-once n d e (at_limit early never) (once_out k low out none) = absurd (false≢true (sym (never k low) ∙ out))
  drains-once n d e (at_limit low none) (at_limit also never) = refl

  -- a run that drains has an end
  pub drains-some : (fuel n : ℕ) → limit ≤ n + fuel → (end : ℕ) × DrainsBy net limit n end
  drains-some zero n l = (n, drains-here n (inl (omega arith)))
  drains-some (suc fuel) n l = at (cases_lt n limit) (is_out_at net n) refl (drains-some fuel)
    where
      at : (n < limit) ⊎ (limit ≤ n) → (b : Bool) → is_out_at net n ≡ b → ((next : ℕ) → limit ≤ next + fuel → (end : ℕ) × DrainsBy net limit next end)
          → (end : ℕ) × DrainsBy net limit n end
      at (inr late) b e more = (n, drains-here n (inl late))
      at (inl early) true e more = (n, drains-here n (inr e))
      at (inl early) false e more =
          let next = n + min 64 (limit - n) in
          let far : limit ≤ next + fuel = omega (arith, l, early) in
          let rest = more next far in
          (rest.0, drains-on n next rest.0 early e refl rest.1)

  -- where the relation is ranked every packet is out at the end
  drained-by : IsGoodSetup net → (ranks : Ranking) → IsRankedBy net.relation ranks → IsLimit net limit → (n e : ℕ) → DrainsBy net limit n e → is_out_at net e ≡ true
  drained-by good ranks ranked is n e (at_once late) = all-out net good ranks ranked limit is n late
  drained-by good ranks ranked is n e (once_out k low out none) = out
  drained-by good ranks ranked is n e (at_limit low none) = all-out net good ranks ranked limit is limit (omega arith)

pub drained-out : (net : Setup) → IsGoodSetup net → (ranks : Ranking) → IsRankedBy net.relation ranks → (n e : ℕ) → DrainsAt net n e → is_out_at net e ≡ true
drained-out net good ranks ranked n e at = drained-by net at.limit good ranks ranked at.is_limit n e at.drains

pub ends-once : (net : Setup) (drain : Bool) (n d e : ℕ) → RunsTo drain net n d → RunsTo drain net n e → d ≡ e
ends-once net false n d e x y = x ∙ sym y
ends-once net true n d e x y =
    let same : y.limit ≡ x.limit = limit-once net y.limit x.limit y.is_limit x.is_limit in
    drains-once net x.limit n d e x.drains (subst (λ (limit : ℕ). DrainsBy net limit n e) same y.drains)

-- a run has an end
pub ends-some : (net : Setup) (drain : Bool) (n : ℕ) → (end : ℕ) × RunsTo drain net n end
ends-some net false n = (n, refl)
ends-some net true n =
    let limit = limit-some net in
    let rest = drains-some net limit.0 limit.0 n (omega arith) in
    (rest.0, record { limit = limit.0; is_limit = limit.1; drains = rest.1 })

-- ---- a run that drains, from its first look to the one where it is now

-- where it drains from here, it drains from there
abbrev pub GoesOn : Run → ℕ → ℕ → Type 0
GoesOn first limit count = (end : ℕ) → DrainsBy first.net limit count end → DrainsBy first.net limit first.count end

module _ (first now : Run) (limit : ℕ) (same : now.net ≡ first.net) (goes : GoesOn first limit now.count) where
  -- after a piece more, from whose end it drains as it does from here
  pub goes-on : (next : Run) (cycles : ℕ) → ((end : ℕ) → DrainsBy now.net limit (now.count + cycles) end → DrainsBy now.net limit now.count end)
      → next ≡ record now { count = now.count + cycles } → GoesOn first limit next.count
  goes-on next cycles piece ran = λ end rest.
      let count : next.count ≡ now.count + cycles = ap (λ (u : Run). u.count) ran in
      let there : DrainsBy first.net limit (now.count + cycles) end = subst (λ n. DrainsBy first.net limit n end) count rest in
      goes end (subst (λ net. DrainsBy net limit now.count end) same (piece end (subst (λ net. DrainsBy net limit (now.count + cycles) end) (sym same) there)))

  -- at its end
  pub goes-to : IsLimit first.net limit → (limit ≤ now.count) ⊎ (is_out_at now.net now.count ≡ true) → DrainsAt now.net first.count now.count
  goes-to is done =
      subst (λ net. DrainsAt net first.count now.count) (sym same) (record { limit = limit; is_limit = is; drains = goes now.count (drains-here first.net limit now.count (moved done)) })
    where
      moved : (limit ≤ now.count) ⊎ (is_out_at now.net now.count ≡ true) → (limit ≤ now.count) ⊎ (is_out_at first.net now.count ≡ true)
      moved (inl late) = inl late
      moved (inr out) = inr (ap (λ net. is_out_at net now.count) (sym same) ∙ out)

-- ---- cycles that leave the state as it is

-- none of the first packets becomes due in so many cycles from a count on
abbrev pub NoneDueOf : Setup → ℕ → ℕ → ℕ → Type 0
NoneDueOf net first count cycles = (p : ℕ) → p < first → count ≤ (packet_at net p).due → count + cycles ≤ (packet_at net p).due

-- after a cycle without an event
pub unchanged-for : (net : Setup) → IsGoodSetup net → (n count cycles : ℕ) → count ≡ n + 1 → events net n (state_at net n) ≡ 0 → NoneDueOf net (length net.packets) count cycles
    → (k : ℕ) → k ≤ cycles → state_at net (count + k) ≡ state_at net count
unchanged-for net made n count cycles is quiet none k l =
    let there : count + k ≡ suc (n + k) = omega (arith, is) in
    let here : count ≡ suc n = omega (arith, is) in
    let undue : NoneDue net n (n + k) = λ p low late. let far = none p low (omega (arith, is, late)) in omega (arith, is, far) in
    ap (state_at net) there ∙ state-until net (well-formed net made) n quiet (n + k) (omega arith) undue
    ∙ sym (ap (state_at net) here ∙ state-until net (well-formed net made) n quiet n (omega arith) (λ p low late. late))
