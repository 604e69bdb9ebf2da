-- The first entry from which nothing leads.
use Rattle.std.proofs.Common.{◌≡◌, ℕ, ◌+◌, ◌*◌, ◌/◌, ◌%◌, ◌<◌, ◌≤◌, Bool, true, false, List, get_or, Option, Some, None, refl, sym, subst, ap, ◌∙◌, arith, inl, inr}
use Rattle.std.specs.Prelude.{◌⊎◌, nat_eq, nat_lt, slice_index, All, if◌then◌else◌}
use Rattle.std.proofs.Math.Nat.{mod-lt}
use Rattle.std.proofs.lemmas.Nat.{div-mul-add, mod-mul-add}
use Rattle.std.proofs.lemmas.Bool.{cases_lt, eq-eqb, eqb-true, false≢true, and_parts}
use Rattle.noc_topo.specs.Shape.{Grid, IsGrid, nodes, ports, local_port, neighbour, distance}
use Rattle.noc_topo.proofs.LinkLemmas.{nodes-some}
use Rattle.noc_packet.specs.Set.{has_bit}
use Rattle.noc_packet.proofs.SetLemmas.{has_bit-zero, zero_from_none}
use Rattle.noc_route.specs.Channel.{Channel, Link, Inject, Eject, arrival_of, channel_vc}
use Rattle.noc_route.specs.Order.{numbers_before, entry_numbers}
use Rattle.noc_route.specs.Relation.{RelationParts, leads, rule_has, IsReached, IsNoWay, IsFirstNoWay, IsFirstRow, IsFirstFault, IsFaultOf, is_right, table_rows_of, row_fault, hop_fault, is_real_row}
use Rattle.noc_route.specs.Built.{IsRelationOfRule}
use Rattle.noc_route.specs.declared.rule.RouteRow.{RouteRow}
use Rattle.noc_route.specs.declared.rule.RouteFault.{RouteFault}
use Rattle.noc_route.specs.declared.rule.RouteFault.TheVariants.{WrongShape, NoLink, NotMinimal, EarlyEject, LateHop, NoWay, Memory}
use Rattle.noc_route.specs.Routes.{Routes, HasTableSize, width, pages, page_of, page_class, page_router, page_dst}
use Rattle.noc_route.specs.Trimming.{set_in, page_set, left_at, comes_in, comes_at, is_stuck_at, entry_on_page, IsNoEarlier, IsStuckFirst, IsFirstStuck, IsPage, CanCome, IsSoundOut, IsFullOut}
use Rattle.noc_route.specs.Entered.{IsEntered}
use Rattle.noc_route.specs.declared.rule.Entry.{Entry}
use Rattle.noc_route.proofs.EntryLemmas.{flat-below, page-router}
use Rattle.noc_route.proofs.TrimLemmas.{index-parts, port-below, CanCome-within, comes_in-sound, page-dst, page-class, page-sender, page-below}
use Rattle.noc_route.proofs.EnterLemmas.{page-whole}
use Rattle.noc_route.proofs.RuleLemmas.{IsWellMade, IsRight-from_test, leads-vc}
use Rattle.noc_route.proofs.BuiltLemmas.{table, sized, some_vcs, member-leads, leads-member, next-link, next-eject, no-inject, ComesOn-reached, CameOn-come, rule-link, rule-eject, IsMade, IsUnstuck, comes-true, kept-set, exact, IsRelation-made}

-- ---- an empty set leads nowhere

-- a lead is a member of the set
lead-member : (g : RelationParts) (sets : List ℕ) → IsWellMade g → IsEntered g (table g sets) → (m t r i p w : ℕ) (c : Channel) (place : ℕ × ℕ) → IsReached g m c t → arrival_of g.grid c ≡ Some (r, i / g.vcs)
    → channel_vc c ≡ i % g.vcs → arrival_of g.grid c ≡ Some place → p < ports g.grid → leads g m place (channel_vc c) t p w ≡ true → has_bit (set_in (table g sets) m r t i) (p * g.vcs + w) ≡ true
lead-member g sets good entered m t r i p w c place reached e f h l lead =
    let both : Some place ≡ Some (r, i / g.vcs) = sym h ∙ e in
    let same : place ≡ (r, i / g.vcs) = cc in
    let on = ComesOn-reached g sets good entered m c t reached (r, i / g.vcs) e in
    let index : i / g.vcs * g.vcs + channel_vc c ≡ i = ap (λ x. i / g.vcs * g.vcs + x) f ∙ index-parts g.vcs i in
    let P : ℕ → Type 0 = λ x. CanCome (table g sets) m t r x in
    let within = CanCome-within (table g sets) m t r i (sized g sets good) (subst P index on.come) in
    let here : leads g m (r, i / g.vcs) (i % g.vcs) t p w ≡ true = ap (λ x. leads g m (r, i / g.vcs) x t p w) (sym f) ∙ ap (λ x. leads g m x (channel_vc c) t p w) (sym same) ∙ lead in
    let vc : w < g.vcs = leads-vc g m r (i / g.vcs) (i % g.vcs) t p w good within.0.class here in
    leads-member g sets m r t i (p * g.vcs + w) entered within.0 within.1 (flat-below p (ports g.grid) w g.vcs l vc)
    (ap (λ x. leads g m (r, i / g.vcs) (i % g.vcs) t x ((p * g.vcs + w) % g.vcs)) (div-mul-add p g.vcs w vc) ∙ ap (leads g m (r, i / g.vcs) (i % g.vcs) t p) (mod-mul-add p g.vcs w vc) ∙ here)

-- no next channel where the set is empty
empty-none : (g : RelationParts) (sets : List ℕ) → IsWellMade g → IsEntered g (table g sets) → (m t r i : ℕ) (c : Channel) → IsReached g m c t → arrival_of g.grid c ≡ Some (r, i / g.vcs)
    → channel_vc c ≡ i % g.vcs → set_in (table g sets) m r t i ≡ 0 → (o : Channel) → rule_has g m c t o ≡ false
empty-none g sets good entered m t r i c reached e f zero o = at o (rule_has g m c t o) refl
  where
    none : (k : ℕ) → has_bit (set_in (table g sets) m r t i) k ≡ true → ⊥
    none k h = false≢true (sym (has_bit-zero k) ∙ sym (ap (λ s. has_bit s k) zero) ∙ h)

    over : (o : Channel) → rule_has g m c t o ≡ true → ⊥
    over (Inject n v) h = no-inject g m (arrival_of g.grid c) (channel_vc c) t n v h
    over (Link a p w) h =
        let next = next-link g m (arrival_of g.grid c) (channel_vc c) t a p w h in
        none (p * g.vcs + w) (lead-member g sets good entered m t r i p w c next.0.place reached e f next.0.from_there (omega (arith, next.1)) next.0.lead)
    over (Eject a w) h =
        let next = next-eject g m (arrival_of g.grid c) (channel_vc c) t a w h in
        none (local_port g.grid * g.vcs + w) (lead-member g sets good entered m t r i (local_port g.grid) w c next.place reached e f next.from_there (omega arith) next.lead)

    at : (o : Channel) (b : Bool) → rule_has g m c t o ≡ b → rule_has g m c t o ≡ false
    at o true h = absurd (over o h)
    at o false h = h

-- where there is no next channel the set is empty
none-empty : (g : RelationParts) (sets : List ℕ) → IsWellMade g → IsEntered g (table g sets) → (m t r i : ℕ) (c : Channel) → IsPage (table g sets) m r t → i < width g.grid g.vcs → arrival_of g.grid c ≡ Some (r, i / g.vcs)
    → channel_vc c ≡ i % g.vcs → ((o : Channel) → rule_has g m c t o ≡ false) → set_in (table g sets) m r t i ≡ 0
none-empty g sets good entered m t r i c place l e f none = zero_from_none (set_in (table g sets) m r t i) (λ k. at k (has_bit (set_in (table g sets) m r t i) k) refl)
  where
    over : (k : ℕ) → leads g m (r, i / g.vcs) (i % g.vcs) t (k / g.vcs) (k % g.vcs) ≡ true → k < width g.grid g.vcs → (k / g.vcs < local_port g.grid) ⊎ (local_port g.grid ≤ k / g.vcs) → ⊥
    over k lead small (inl link) =
        false≢true (sym (none (Link r (k / g.vcs) (k % g.vcs))) ∙ rule-link g m c t r (i / g.vcs) (i % g.vcs) (k / g.vcs) (k % g.vcs) e f link lead)
    over k lead small (inr home) =
        let port : k / g.vcs ≡ local_port g.grid = omega (arith, home, port-below g.grid g.vcs k (some_vcs g good) small) in
        false≢true (sym (none (Eject r (k % g.vcs))) ∙ rule-eject g m c t r (i / g.vcs) (i % g.vcs) (k % g.vcs) e f (sym (ap (λ x. leads g m (r, i / g.vcs) (i % g.vcs) t x (k % g.vcs)) port) ∙ lead))

    at : (k : ℕ) (b : Bool) → has_bit (set_in (table g sets) m r t i) k ≡ b → has_bit (set_in (table g sets) m r t i) k ≡ false
    at k true h =
        let led = member-leads g sets m r t i k entered place l h in
        absurd (over k led.1 led.0 (cases_lt (k / g.vcs) (local_port g.grid)))
    at k false h = h

-- ---- stuck entries

IsNoWay-stuck : (g : RelationParts) (sets left outs : List ℕ) → IsMade g sets left outs → (b i : ℕ) → b < pages g.grid g.classes → i < width g.grid g.vcs → is_stuck_at (table g left) outs b i ≡ true
    → IsNoWay g (entry_on_page (table g left) b i)
IsNoWay-stuck g sets left outs made b i l k stuck =
    let m = page_class g.grid g.classes b in
    let r = page_router g.grid g.classes b in
    let t = page_dst g.grid b in
    let right = IsRight-from_test g.grid g.vcs g.classes g.rule made.good.right in
    let some = nodes-some g.grid made.good.grid in
    let place : IsPage (table g sets) m r t
    = record {
      class = mod-lt (b / nodes g.grid) {m = g.classes} (omega (arith, right.some_classes));
      router = page-router b (nodes g.grid) g.classes (omega (arith, some)) right.some_classes l;
      dst = mod-lt b {m = nodes g.grid} (omega (arith, some));
    } in
    let parts = and_parts (comes_at (table g left) outs b i) (nat_eq (page_set (table g left) b i) 0) stuck in
    let come = comes_in-sound (table g sets) outs m r t i (sized g sets made.good) made.sound place k parts.0 in
    let came = CameOn-come g sets made.good made.entered m t r i come in
    let kept : page_set (table g left) b i ≡ page_set (table g sets) b i = made.trimmed b i l k ∙ ap (λ x. if x then page_set (table g sets) b i else 0) parts.0 in
    let zero : set_in (table g sets) m r t i ≡ 0
    = ap (λ x. slice_index sets (x * width g.grid g.vcs + i)) (page-whole g.grid g.classes b) ∙ sym kept ∙ eqb-true _ 0 parts.1 in
    record {
      channel = came.channel;
      arrives = came.arrives;
      vc = came.vc;
      reached = came.reached;
      none = empty-none g sets made.good made.entered m t r i came.channel came.reached came.arrives came.vc zero;
    }

-- the page and input of an entry with no way, at which packets are stuck
record StuckAt (g : RelationParts) (left outs : List ℕ) (e : Entry) : Type 0 where
  page : ℕ
  input : ℕ
  exists : page < pages g.grid g.classes
  within : input < width g.grid g.vcs
  stuck : is_stuck_at (table g left) outs page input ≡ true
  numbers : entry_numbers (entry_on_page (table g left) page input) ≡ entry_numbers e

StuckAt-no_way : (g : RelationParts) (sets left outs : List ℕ) → IsMade g sets left outs → (e : Entry) → IsNoWay g e → StuckAt g left outs e
StuckAt-no_way g sets left outs made e h =
    let on = ComesOn-reached g sets made.good made.entered e.class h.channel e.dst h.reached (e.router, e.in_port) h.arrives in
    let i = e.in_port * g.vcs + channel_vc h.channel in
    let within = CanCome-within (table g sets) e.class e.dst e.router i (sized g sets made.good) on.come in
    let b = page_of g.grid g.classes e.class e.router e.dst in
    let port : i / g.vcs ≡ e.in_port = div-mul-add e.in_port g.vcs (channel_vc h.channel) on.vc in
    let number : i % g.vcs ≡ channel_vc h.channel = mod-mul-add e.in_port g.vcs (channel_vc h.channel) on.vc in
    let class = page-class g.grid g.classes e.class e.router e.dst within.0.dst within.0.class in
    let router = page-sender g.grid g.classes e.class e.router e.dst within.0.dst within.0.class in
    let dst = page-dst g.grid g.classes e.class e.router e.dst within.0.dst in
    let arrives : arrival_of g.grid h.channel ≡ Some (e.router, i / g.vcs) = h.arrives ∙ ap (λ x. Some (e.router, x)) (sym port) in
    let zero = none-empty g sets made.good made.entered e.class e.dst e.router i h.channel within.0 within.1 arrives (sym number) h.none in
    let came = λ (m r t : ℕ). comes_in (table g sets) outs m r t i in
    let comes : comes_at (table g left) outs b i ≡ true
    = ap (λ x. came x (b / nodes g.grid / g.classes) (b % nodes g.grid)) class ∙ ap (λ x. came e.class x (b % nodes g.grid)) router ∙ ap (came e.class e.router) dst
    ∙ comes-true g sets left outs made e.class e.router e.dst i on.come in
    let empty : nat_eq (page_set (table g left) b i) 0 ≡ true = eq-eqb _ 0 (kept-set g sets left outs made e.class e.router e.dst i on.come ∙ zero) in
    record {
      page = b;
      input = i;
      exists = page-below g.grid g.classes e.class e.router e.dst within.0.class within.0.router within.0.dst;
      within = within.1;
      stuck = rw (comes, empty) refl;
      numbers = rw (class, router, dst, port, number, h.vc) refl;
    }

pub IsFirstNoWay-stuck : (g : RelationParts) (sets left outs : List ℕ) (e : Entry) → IsMade g sets left outs → IsStuckFirst (table g left) outs (pages g.grid g.classes * width g.grid g.vcs) e → IsFirstNoWay g e
IsFirstNoWay-stuck g sets left outs e made h =
    let P : Entry → Type 0 = λ e. IsNoWay g e in
    record {
      right = made.good.right;
      rows = made.good.rows;
      here = subst P (sym h.entry) (IsNoWay-stuck g sets left outs made h.page h.input h.exists h.within h.stuck);
      first = λ other way.
          let at = StuckAt-no_way g sets left outs made other way in
          later other at (h.first at.page at.input at.exists at.within (flat-below at.page (pages g.grid g.classes) at.input (width g.grid g.vcs) at.exists at.within));
    }
  where
    later : (other : Entry) → (at : StuckAt g left outs other) → IsNoEarlier (table g left) outs at.page at.input e → numbers_before (entry_numbers other) (entry_numbers e) ≡ false
    later other at (inl free) = absurd (false≢true (sym free ∙ at.stuck))
    later other at (inr after) = ap (λ ns. numbers_before ns (entry_numbers e)) (sym at.numbers) ∙ after

-- where no entry is stuck, something is permitted wherever packets come
pub IsUnstuck-none : (g : RelationParts) (left outs : List ℕ) (n : ℕ) → n ≡ pages g.grid g.classes * width g.grid g.vcs → IsFirstStuck (table g left) outs n None → IsUnstuck g left outs
IsUnstuck-none g left outs n e h = λ b i l k. h b i l k (omega (arith, e, flat-below b (pages g.grid g.classes) i (width g.grid g.vcs) l k))

-- ---- what building makes, and its faults

-- whether a fault is that of a row
is_row_kind : Option RouteFault → Bool
is_row_kind None = true
is_row_kind (Some (NoLink r)) = true
is_row_kind (Some (NotMinimal r)) = true
is_row_kind (Some (EarlyEject r)) = true
is_row_kind (Some (LateHop r)) = true
is_row_kind (Some WrongShape) = false
is_row_kind (Some (NoWay r)) = false
is_row_kind (Some Memory) = false

hop_fault-kind : (g : Grid) (row : RouteRow) (o : Option (ℕ × ℕ)) → is_row_kind (hop_fault g row o) ≡ true
unfolding is_row_kind
hop_fault-kind g row None = at (nat_eq row.router row.dst)
  where
    at : (b : Bool) → is_row_kind (if b then None else Some (EarlyEject row)) ≡ true
    at true = refl
    at false = refl
hop_fault-kind g row (Some next) = at (nat_eq row.router row.dst) (nat_lt (distance g next.0 row.dst) (distance g row.router row.dst))
  where
    at : (b c : Bool) → is_row_kind (if b then Some (LateHop row) else (if c then None else Some (NotMinimal row))) ≡ true
    at true c = refl
    at false true = refl
    at false false = refl

row_fault-row_kind : (g : Grid) (vcs classes : ℕ) (row : RouteRow) → is_row_kind (row_fault g vcs classes row) ≡ true
unfolding is_row_kind
row_fault-row_kind g vcs classes row = at (is_real_row g vcs classes row)
  where
    at : (b : Bool) → is_row_kind (if b then hop_fault g row (neighbour g row.router row.out_port) else Some (NoLink row)) ≡ true
    at true = hop_fault-kind g row (neighbour g row.router row.out_port)
    at false = refl

only_row : (g : RelationParts) (row : RouteRow) (fault : RouteFault) → row_fault g.grid g.vcs g.classes row ≡ Some fault → is_row_kind (Some fault) ≡ false → ⊥
only_row g row fault e kind = false≢true (sym kind ∙ sym (ap is_row_kind e) ∙ row_fault-row_kind g.grid g.vcs g.classes row)

-- no row's fault is another kind of fault
row_fault-kind : (g : RelationParts) (row : RouteRow) (fault : RouteFault) → row_fault g.grid g.vcs g.classes row ≡ Some fault → IsFirstRow g fault → IsFaultOf g fault
unfolding is_row_kind
row_fault-kind g row (NoLink r) e h = h
row_fault-kind g row (NotMinimal r) e h = h
row_fault-kind g row (EarlyEject r) e h = h
row_fault-kind g row (LateHop r) e h = h
row_fault-kind g row WrongShape e h = absurd (only_row g row WrongShape e refl)
row_fault-kind g row (NoWay r) e h = absurd (only_row g row (NoWay r) e refl)
row_fault-kind g row Memory e h = absurd (only_row g row Memory e refl)

pub IsFaultOf-row : (g : RelationParts) (fault : RouteFault) → is_right g.grid g.vcs g.classes g.rule ≡ true → IsFirstFault g.grid g.vcs g.classes (table_rows_of g.rule) fault → IsFaultOf g fault
IsFaultOf-row g fault right h = row_fault-kind g h.row fault h.faulty (record { right = right; first = h })

pub IsMade-steps : (g : RelationParts) (sets left outs : List ℕ) → IsGrid g.grid → is_right g.grid g.vcs g.classes g.rule ≡ true → All (λ row. row_fault g.grid g.vcs g.classes row ≡ None) (table_rows_of g.rule)
    → IsEntered g (table g sets) → IsSoundOut (table g sets) outs → ((m r t : ℕ) → IsPage (table g sets) m r t → IsFullOut (table g sets) outs m r t)
    → ((b i : ℕ) → b < pages g.grid g.classes → i < width g.grid g.vcs → page_set (table g left) b i ≡ left_at (table g sets) outs b i) → IsMade g sets left outs
IsMade-steps g sets left outs grid right rows entered sound full trimmed =
    record { good = record { grid = grid; right = right; rows = rows }; entered = entered; sound = sound; full = full; trimmed = trimmed }

-- where no entry is stuck, the rule leads on wherever packets come
ways-unstuck : (g : RelationParts) (sets left outs : List ℕ) → IsMade g sets left outs → IsUnstuck g left outs → (e : Entry) → IsNoWay g e → ⊥
ways-unstuck g sets left outs made unstuck e way =
    let at = StuckAt-no_way g sets left outs made e way in
    false≢true (sym (unstuck at.page at.input at.exists at.within) ∙ at.stuck)

pub IsRelationOfRule-made : (g : RelationParts) (sets left outs : List ℕ) → IsMade g sets left outs → IsUnstuck g left outs → HasTableSize (table g left) → IsRelationOfRule g (table g left)
IsRelationOfRule-made g sets left outs made unstuck size = record {
  faultless = record { right = made.good.right; rows = made.good.rows; ways = ways-unstuck g sets left outs made unstuck };
  grid = refl;
  vcs = refl;
  classes = refl;
  built = IsRelation-made g sets left outs made unstuck size;
  exact = exact g sets left outs made;
}

-- lists without a member say that nothing leaves
pub IsSoundOut-none : (routes : Routes) (outs : List ℕ) → ((j : ℕ) → get_or outs j 0 ≡ 0) → IsSoundOut routes outs
IsSoundOut-none routes outs none = λ m r t k place l e.
    absurd (false≢true (sym (has_bit-zero k) ∙ sym (ap (λ s. has_bit s k) (none (page_of routes.grid routes.classes m r t))) ∙ e))
