-- The trimmed table is the routing relation.
use Rattle.std.proofs.Common.{◌≡◌, ◌≢◌, ℕ, ◌+◌, ◌*◌, ◌/◌, ◌%◌, ◌<◌, ◌≤◌, Bool, true, false, List, Option, Some, None, refl, sym, subst, ap, ◌∙◌, arith, inl, inr}
use Rattle.std.specs.Prelude.{◌⊎◌, ◌&&◌, ◌↔◌, IsTrue, nat_eq, nat_lt, if◌then◌else◌}
use Rattle.std.proofs.Math.Nat.{mod-lt}
use Rattle.std.proofs.lemmas.Nat.{div-mul-add, mod-mul-add}
use Rattle.std.proofs.lemmas.Bool.{cases_lt, eq-eqb, eqb-true, false≢true, and_parts, ltb-true, lt-ltb, le-ltb}
use Rattle.noc_topo.specs.Shape.{Grid, IsGrid, nodes, ports, local_port, neighbour, distance}
use Rattle.noc_topo.proofs.LinkLemmas.{link_back}
use Rattle.noc_packet.specs.Set.{has_bit}
use Rattle.noc_packet.proofs.SetLemmas.{has_bit-zero, zero_from_none}
use Rattle.noc_route.specs.Channel.{Channel, Link, Inject, Eject, arrival_of, channel_vc}
use Rattle.noc_route.specs.Relation.{RelationParts, leads, rule_offers, rule_has, IsReached, injected, led_on, IsPermitted}
use Rattle.noc_route.specs.Routes.{Routes, width, pages, page_of, is_entry, set_at, permits, permits_at, is_sent, HasTableSize, IsRelation, HasLead}
use Rattle.noc_route.specs.Trimming.{set_in, page_set, left_at, comes_in, comes_at, is_stuck_at, IsPage, CanCome, injected as come_injected, led as come_led, ComesNearer, IsSoundOut, IsFullOut}
use Rattle.noc_steps.specs.Reached.{any_below}
use Rattle.noc_route.specs.Entered.{IsEntered}
use Rattle.noc_route.proofs.EntryLemmas.{flat-below, is_entry-true}
use Rattle.noc_route.proofs.TrimLemmas.{IsSized, any_below-some, any_below-at, index-parts, port-below, CanCome-within, comes_in-sound, comes_in-full, page-dst, page-class, page-sender, page-below}
use Rattle.noc_route.proofs.RuleLemmas.{IsWellMade, IsRight-from_test, leads-vc, leads-hop, leads-home}

-- a table over the numbers of a rule
abbrev pub table : RelationParts → List ℕ → Routes
table g sets = record { grid = g.grid; vcs = g.vcs; classes = g.classes; sets = sets }

-- ---- the rule's own table

pub some_vcs : (g : RelationParts) → IsWellMade g → 1 ≤ g.vcs
some_vcs g good = (IsRight-from_test g.grid g.vcs g.classes g.rule good.right).some_vcs

pub sized : (g : RelationParts) (sets : List ℕ) → IsWellMade g → IsSized (table g sets)
sized g sets good = record { grid = good.grid; some_vcs = some_vcs g good }

-- a member of an entered set is a channel to which the rule leads
pub member-leads : (g : RelationParts) (sets : List ℕ) (m r t i k : ℕ) → IsEntered g (table g sets) → IsPage (table g sets) m r t → i < width g.grid g.vcs
    → has_bit (set_in (table g sets) m r t i) k ≡ true → (k < width g.grid g.vcs) × (leads g m (r, i / g.vcs) (i % g.vcs) t (k / g.vcs) (k % g.vcs) ≡ true)
member-leads g sets m r t i k entered place l e =
    let parts = and_parts (nat_lt k (width g.grid g.vcs)) _ (sym (entered m r t i k place l) ∙ e) in
    (ltb-true k (width g.grid g.vcs) parts.0, parts.1)

pub leads-member : (g : RelationParts) (sets : List ℕ) (m r t i k : ℕ) → IsEntered g (table g sets) → IsPage (table g sets) m r t → i < width g.grid g.vcs → k < width g.grid g.vcs
    → leads g m (r, i / g.vcs) (i % g.vcs) t (k / g.vcs) (k % g.vcs) ≡ true → has_bit (set_in (table g sets) m r t i) k ≡ true
leads-member g sets m r t i k entered place l within e =
    let small = lt-ltb k (width g.grid g.vcs) within in
    entered m r t i k place l ∙ rw (small, e) refl

-- a port with a link is a link port
pub linked-port : (g : Grid) (r p : ℕ) (to : ℕ × ℕ) → neighbour g r p ≡ Some to → p < local_port g
linked-port g r p to e = at (cases_lt p (local_port g))
  where
    at : (p < local_port g) ⊎ (local_port g ≤ p) → p < local_port g
    at (inl l) = l
    at (inr past) = let none : nat_lt p (local_port g) ≡ false = le-ltb p (local_port g) past in let never : None ≡ Some to = sym (rw none refl) ∙ e in absurd (cc never)

pub ComesNearer-entered : (g : RelationParts) (sets : List ℕ) → IsWellMade g → IsEntered g (table g sets) → ComesNearer (table g sets)
ComesNearer-entered g sets good entered = λ m r t i k b q place l within has link.
    let led = member-leads g sets m r t i k entered place l has in
    let hop = leads-hop g m r (i / g.vcs) (i % g.vcs) t (k / g.vcs) (k % g.vcs) good (linked-port g.grid r (k / g.vcs) (b, q) link) led.1 in
    let both : Some hop.to ≡ Some (b, q) = sym hop.link ∙ link in
    let same : hop.to ≡ (b, q) = cc in
    let near : distance g.grid b t + 1 ≡ distance g.grid r t = ap (λ (to : ℕ × ℕ). distance g.grid to.0 t + 1) (sym same) ∙ hop.nearer in
    omega (arith, near)

-- ---- channels

-- the channel that comes to a place is one
pub same-channel : (g : Grid) (sets : List ℕ) (vcs classes : ℕ) (c d : Channel) (place : ℕ × ℕ) → IsGrid g
    → is_sent (record { grid = g; vcs = vcs; classes = classes; sets = sets }) c ≡ true → is_sent (record { grid = g; vcs = vcs; classes = classes; sets = sets }) d ≡ true
    → arrival_of g c ≡ Some place → arrival_of g d ≡ Some place → channel_vc c ≡ channel_vc d → c ≡ d
same-channel g sets vcs classes (Link r p v) (Link a q w) place sound s z e f h =
    let back = link_back g r p place.0 place.1 sound (ltb-true _ _ s) e in
    let other = link_back g a q place.0 place.1 sound (ltb-true _ _ z) f in
    let both : Some (r, p) ≡ Some (a, q) = sym back.back ∙ other.back in
    let pair : (r, p) ≡ (a, q) = cc in
    ap (λ (x : ℕ × ℕ). Link x.0 x.1 v) pair ∙ ap (Link a q) h
same-channel g sets vcs classes (Link r p v) (Inject n w) place sound s z e f h =
    let back = link_back g r p place.0 place.1 sound (ltb-true _ _ s) e in
    let home : (n, local_port g) ≡ place = cc in
    absurd (omega (arith, back.port, ap (λ (x : ℕ × ℕ). x.1) home))
same-channel g sets vcs classes (Inject n v) (Link a q w) place sound s z e f h =
    let back = link_back g a q place.0 place.1 sound (ltb-true _ _ z) f in
    let home : (n, local_port g) ≡ place = cc in
    absurd (omega (arith, back.port, ap (λ (x : ℕ × ℕ). x.1) home))
same-channel g sets vcs classes (Inject n v) (Inject k w) place sound s z e f h =
    let both : Some (n, local_port g) ≡ Some (k, local_port g) = e ∙ sym f in
    let pair : (n, local_port g) ≡ (k, local_port g) = cc in
    ap (λ (x : ℕ × ℕ). Inject x.0 v) pair ∙ ap (Inject k) h
same-channel g sets vcs classes (Eject n v) d place sound s z e f h = absurd (false≢true s)
same-channel g sets vcs classes (Link r p v) (Eject k w) place sound s z e f h = absurd (false≢true z)
same-channel g sets vcs classes (Inject n v) (Eject k w) place sound s z e f h = absurd (false≢true z)

-- what it is for the rule to have a next channel
pub record HasNext (g : RelationParts) (m : ℕ) (from : Option (ℕ × ℕ)) (v t r p w : ℕ) : Type 0 where
  pub place : ℕ × ℕ
  pub from_there : from ≡ Some place
  pub router : r ≡ place.0
  pub lead : leads g m place v t p w ≡ true

pub next-link : (g : RelationParts) (m : ℕ) (from : Option (ℕ × ℕ)) (v t r p w : ℕ) → rule_offers g m from v t (Link r p w) ≡ true → HasNext g m from v t r p w × (p < local_port g.grid)
next-link g m None v t r p w e = absurd (false≢true e)
next-link g m (Some place) v t r p w e =
    let a = and_parts _ (leads g m place v t p w) e in
    let b = and_parts (nat_eq r place.0) (nat_lt p (local_port g.grid)) a.0 in
    (record { place = place; from_there = refl; router = eqb-true _ _ b.0; lead = a.1 }, ltb-true _ _ b.1)

pub next-eject : (g : RelationParts) (m : ℕ) (from : Option (ℕ × ℕ)) (v t r w : ℕ) → rule_offers g m from v t (Eject r w) ≡ true → HasNext g m from v t r (local_port g.grid) w
next-eject g m None v t r w e = absurd (false≢true e)
next-eject g m (Some place) v t r w e =
    let a = and_parts (nat_eq r place.0) (leads g m place v t (local_port g.grid) w) e in
    record { place = place; from_there = refl; router = eqb-true _ _ a.0; lead = a.1 }

-- packets come to a place on a channel
pub record ComesOn (g : RelationParts) (sets : List ℕ) (m t : ℕ) (c : Channel) (place : ℕ × ℕ) : Type 0 where
  pub come : CanCome (table g sets) m t place.0 (place.1 * g.vcs + channel_vc c)
  pub vc : channel_vc c < g.vcs
  pub sent : is_sent (table g sets) c ≡ true

-- ---- the rule's reached entries are those of its table

pub ComesOn-reached : (g : RelationParts) (sets : List ℕ) → IsWellMade g → IsEntered g (table g sets) → (m : ℕ) (c : Channel) (t : ℕ) → IsReached g m c t
    → (place : ℕ × ℕ) → arrival_of g.grid c ≡ Some place → ComesOn g sets m t c place
ComesOn-reached g sets good entered m c t (injected {n = n} {v = v} a b d e other) place f =
    let home : (n, local_port g.grid) ≡ place = cc in
    let node : n ≡ place.0 = ap (λ (x : ℕ × ℕ). x.0) home in
    let port : local_port g.grid ≡ place.1 = ap (λ (x : ℕ × ℕ). x.1) home in
    let P : ℕ → Type 0 = λ r. CanCome (table g sets) m t r (place.1 * g.vcs + v) in
    record {
      come = subst P node (come_injected (record { class = a; router = b; dst = e }) other d (ap (λ p. p * g.vcs + v) (sym port)));
      vc = d;
      sent = refl;
    }
ComesOn-reached g sets good entered m c t (led_on {c = from} {r = r} {p = p} {v = v} h e) place f =
    let next = next-link g m (arrival_of g.grid from) (channel_vc from) t r p v e in
    let before = ComesOn-reached g sets good entered m from t h next.0.place next.0.from_there in
    let within = CanCome-within (table g sets) m t next.0.place.0 (next.0.place.1 * g.vcs + channel_vc from) (sized g sets good) before.come in
    let vc : v < g.vcs = leads-vc g m next.0.place.0 next.0.place.1 (channel_vc from) t p v good within.0.class next.0.lead in
    let in_port : (next.0.place.1 * g.vcs + channel_vc from) / g.vcs ≡ next.0.place.1 = div-mul-add next.0.place.1 g.vcs (channel_vc from) before.vc in
    let in_vc : (next.0.place.1 * g.vcs + channel_vc from) % g.vcs ≡ channel_vc from = mod-mul-add next.0.place.1 g.vcs (channel_vc from) before.vc in
    let out_port : (p * g.vcs + v) / g.vcs ≡ p = div-mul-add p g.vcs v vc in
    let out_vc : (p * g.vcs + v) % g.vcs ≡ v = mod-mul-add p g.vcs v vc in
    let small : p * g.vcs + v < width g.grid g.vcs = flat-below p (ports g.grid) v g.vcs (omega (arith, next.1)) vc in
    let lead : leads g m (next.0.place.0, (next.0.place.1 * g.vcs + channel_vc from) / g.vcs) ((next.0.place.1 * g.vcs + channel_vc from) % g.vcs) t ((p * g.vcs + v) / g.vcs) ((p * g.vcs + v) % g.vcs) ≡ true
    = ap (λ x. leads g m (next.0.place.0, x) ((next.0.place.1 * g.vcs + channel_vc from) % g.vcs) t ((p * g.vcs + v) / g.vcs) ((p * g.vcs + v) % g.vcs)) in_port
    ∙ ap (λ x. leads g m next.0.place x t ((p * g.vcs + v) / g.vcs) ((p * g.vcs + v) % g.vcs)) in_vc
    ∙ ap (λ x. leads g m next.0.place (channel_vc from) t x ((p * g.vcs + v) % g.vcs)) out_port
    ∙ ap (leads g m next.0.place (channel_vc from) t p) out_vc ∙ next.0.lead in
    let has = leads-member g sets m next.0.place.0 t (next.0.place.1 * g.vcs + channel_vc from) (p * g.vcs + v) entered within.0 within.1 small lead in
    let link : neighbour g.grid next.0.place.0 ((p * g.vcs + v) / g.vcs) ≡ Some (place.0, place.1) = ap (neighbour g.grid next.0.place.0) out_port ∙ ap (λ x. neighbour g.grid x p) (sym next.0.router) ∙ f in
    record {
      come = come_led before.come small has link (ap (λ x. place.1 * g.vcs + x) (sym out_vc));
      vc = vc;
      sent = lt-ltb r (nodes g.grid) (omega (arith, next.0.router, within.0.router));
    }

-- the channel on which packets come to an input
pub record CameOn (g : RelationParts) (sets : List ℕ) (m t r i : ℕ) : Type 0 where
  pub channel : Channel
  pub arrives : arrival_of g.grid channel ≡ Some (r, i / g.vcs)
  pub vc : channel_vc channel ≡ i % g.vcs
  pub reached : IsReached g m channel t
  pub sent : is_sent (table g sets) channel ≡ true

-- what leads on is in the rule
pub rule-link : (g : RelationParts) (m : ℕ) (c : Channel) (t a q v p w : ℕ) → arrival_of g.grid c ≡ Some (a, q) → channel_vc c ≡ v → p < local_port g.grid
    → leads g m (a, q) v t p w ≡ true → rule_has g m c t (Link a p w) ≡ true
rule-link g m c t a q v p w e f l lead =
    let here = eq-eqb a a refl in
    let link = lt-ltb p (local_port g.grid) l in
    ap (λ from. rule_offers g m from (channel_vc c) t (Link a p w)) e ∙ ap (λ v. rule_offers g m (Some (a, q)) v t (Link a p w)) f ∙ rw (here, link, lead) refl

pub rule-eject : (g : RelationParts) (m : ℕ) (c : Channel) (t a q v w : ℕ) → arrival_of g.grid c ≡ Some (a, q) → channel_vc c ≡ v
    → leads g m (a, q) v t (local_port g.grid) w ≡ true → rule_has g m c t (Eject a w) ≡ true
rule-eject g m c t a q v w e f lead =
    let here = eq-eqb a a refl in
    ap (λ from. rule_offers g m from (channel_vc c) t (Eject a w)) e ∙ ap (λ v. rule_offers g m (Some (a, q)) v t (Eject a w)) f ∙ rw (here, lead) refl

pub CameOn-come : (g : RelationParts) (sets : List ℕ) → IsWellMade g → IsEntered g (table g sets) → (m t r i : ℕ) → CanCome (table g sets) m t r i → CameOn g sets m t r i
CameOn-come g sets good entered m t r i (come_injected {v = v} place away l e) =
    let port : i / g.vcs ≡ local_port g.grid = ap (λ x. x / g.vcs) e ∙ div-mul-add (local_port g.grid) g.vcs v l in
    let number : i % g.vcs ≡ v = ap (λ x. x % g.vcs) e ∙ mod-mul-add (local_port g.grid) g.vcs v l in
    record {
      channel = Inject r v;
      arrives = ap (λ p. Some (r, p)) (sym port);
      vc = sym number;
      reached = injected place.class place.router l place.dst away;
      sent = refl;
    }
CameOn-come g sets good entered m t r i (come_led {r = a} {i = j} {k = k} {q = q} come l has link e) =
    let before = CameOn-come g sets good entered m t a j come in
    let within = CanCome-within (table g sets) m t a j (sized g sets good) come in
    let led = member-leads g sets m a t j k entered within.0 within.1 has in
    let vc : k % g.vcs < g.vcs = mod-lt k {m = g.vcs} (omega (arith, some_vcs g good)) in
    let port : i / g.vcs ≡ q = ap (λ x. x / g.vcs) e ∙ div-mul-add q g.vcs (k % g.vcs) vc in
    let number : i % g.vcs ≡ k % g.vcs = ap (λ x. x % g.vcs) e ∙ mod-mul-add q g.vcs (k % g.vcs) vc in
    let next = rule-link g m before.channel t a (j / g.vcs) (j % g.vcs) (k / g.vcs) (k % g.vcs) before.arrives before.vc (linked-port g.grid a (k / g.vcs) (r, q) link) led.1 in
    record {
      channel = Link a (k / g.vcs) (k % g.vcs);
      arrives = link ∙ ap (λ p. Some (r, p)) (sym port);
      vc = sym number;
      reached = led_on before.reached next;
      sent = lt-ltb a (nodes g.grid) within.0.router;
    }

-- ---- the trimmed table

-- what the steps of building make
pub record IsMade (g : RelationParts) (sets left outs : List ℕ) : Type 0 where
  pub good : IsWellMade g
  pub entered : IsEntered g (table g sets)
  pub sound : IsSoundOut (table g sets) outs
  pub full : (m r t : ℕ) → IsPage (table g sets) m r t → IsFullOut (table g sets) outs m r t
  pub trimmed : (b i : ℕ) → b < pages g.grid g.classes → i < width g.grid g.vcs → page_set (table g left) b i ≡ left_at (table g sets) outs b i

-- the set that is left at a place
pub set-left : (g : RelationParts) (sets left outs : List ℕ) → IsMade g sets left outs → (m r t i : ℕ) → IsPage (table g sets) m r t → i < width g.grid g.vcs
    → set_in (table g left) m r t i ≡ (if comes_in (table g sets) outs m r t i then set_in (table g sets) m r t i else 0)
set-left g sets left outs made m r t i place l =
    let b = page_of g.grid g.classes m r t in
    let R = table g sets in
    let kept = λ (m' r' t' : ℕ). if comes_in R outs m' r' t' i then set_in R m r t i else 0 in
    made.trimmed b i (page-below g.grid g.classes m r t place.class place.router place.dst) l
    ∙ ap (λ x. kept x (b / nodes g.grid / g.classes) (b % nodes g.grid)) (page-class g.grid g.classes m r t place.dst place.class)
    ∙ ap (λ x. kept m x (b % nodes g.grid)) (page-sender g.grid g.classes m r t place.dst place.class)
    ∙ ap (kept m r) (page-dst g.grid g.classes m r t place.dst)

-- packets come exactly by the lists
pub comes-true : (g : RelationParts) (sets left outs : List ℕ) → IsMade g sets left outs → (m r t i : ℕ) → CanCome (table g sets) m t r i → comes_in (table g sets) outs m r t i ≡ true
comes-true g sets left outs made m r t i come =
    comes_in-full (table g sets) outs m r t i (sized g sets made.good) (ComesNearer-entered g sets made.good made.entered) (λ u place l. made.full m u t place) come

pub kept-set : (g : RelationParts) (sets left outs : List ℕ) → IsMade g sets left outs → (m r t i : ℕ) → CanCome (table g sets) m t r i → set_in (table g left) m r t i ≡ set_in (table g sets) m r t i
kept-set g sets left outs made m r t i come =
    let within = CanCome-within (table g sets) m t r i (sized g sets made.good) come in
    let yes = comes-true g sets left outs made m r t i come in
    set-left g sets left outs made m r t i within.0 within.1 ∙ rw yes refl

-- a set with a member is one to which packets come
pub member-come : (g : RelationParts) (sets left outs : List ℕ) → IsMade g sets left outs → (m r t i k : ℕ) → IsPage (table g sets) m r t → i < width g.grid g.vcs
    → has_bit (set_in (table g left) m r t i) k ≡ true → CanCome (table g sets) m t r i × (has_bit (set_in (table g sets) m r t i) k ≡ true)
member-come g sets left outs made m r t i k place l e = at (comes_in (table g sets) outs m r t i) refl
  where
    at : (b : Bool) → comes_in (table g sets) outs m r t i ≡ b → CanCome (table g sets) m t r i × (has_bit (set_in (table g sets) m r t i) k ≡ true)
    at true f = (
      comes_in-sound (table g sets) outs m r t i (sized g sets made.good) made.sound place l f,
      sym (ap (λ s. has_bit s k) (set-left g sets left outs made m r t i place l ∙ rw f refl)) ∙ e,
    )
    at false f =
        absurd (false≢true (sym (has_bit-zero k) ∙ sym (ap (λ s. has_bit s k) (set-left g sets left outs made m r t i place l ∙ rw f refl)) ∙ e))

-- an entry of a table that exists
pub record Exists (routes : Routes) (m r p v t : ℕ) : Type 0 where
  pub place : IsPage routes m r t
  pub port : p < ports routes.grid
  pub vc : v < routes.vcs

-- a set with a member is at an entry that exists
pub set_at-member : (routes : Routes) (m r p v t k : ℕ) → has_bit (set_at routes m r p v t) k ≡ true
    → Exists routes m r p v t × (has_bit (set_in routes m r t (p * routes.vcs + v)) k ≡ true)
set_at-member routes m r p v t k e = at (is_entry routes.grid routes.vcs routes.classes m r p v t) refl
  where
    at : (b : Bool) → is_entry routes.grid routes.vcs routes.classes m r p v t ≡ b → Exists routes m r p v t × (has_bit (set_in routes m r t (p * routes.vcs + v)) k ≡ true)
    at true f =
        let a = and_parts _ (nat_lt t (nodes routes.grid)) f in
        let b = and_parts _ (nat_lt v routes.vcs) a.0 in
        let c = and_parts _ (nat_lt p (ports routes.grid)) b.0 in
        let d = and_parts (nat_lt m routes.classes) (nat_lt r (nodes routes.grid)) c.0 in (
          record { place = record { class = ltb-true _ _ d.0; router = ltb-true _ _ d.1; dst = ltb-true _ _ a.1 }; port = ltb-true _ _ c.1; vc = ltb-true _ _ b.1 },
          sym (rw f refl) ∙ e,
        )
    at false f = absurd (false≢true (sym (has_bit-zero k) ∙ sym (rw f refl) ∙ e))

pub set_at-exists : (routes : Routes) (m r p v t : ℕ) → Exists routes m r p v t → set_at routes m r p v t ≡ set_in routes m r t (p * routes.vcs + v)
set_at-exists routes m r p v t h =
    let there = is_entry-true routes.grid routes.vcs routes.classes m r p v t h.place.class h.place.router h.port h.vc h.place.dst in
    rw there refl

-- ---- the table is the relation

leads-index : (g : RelationParts) (m r p v t q w : ℕ) → v < g.vcs → w < g.vcs
    → leads g m (r, (p * g.vcs + v) / g.vcs) ((p * g.vcs + v) % g.vcs) t ((q * g.vcs + w) / g.vcs) ((q * g.vcs + w) % g.vcs) ≡ leads g m (r, p) v t q w
leads-index g m r p v t q w l k =
    ap (λ x. leads g m (r, x) ((p * g.vcs + v) % g.vcs) t ((q * g.vcs + w) / g.vcs) ((q * g.vcs + w) % g.vcs)) (div-mul-add p g.vcs v l)
    ∙ ap (λ x. leads g m (r, p) x t ((q * g.vcs + w) / g.vcs) ((q * g.vcs + w) % g.vcs)) (mod-mul-add p g.vcs v l)
    ∙ ap (λ x. leads g m (r, p) v t x ((q * g.vcs + w) % g.vcs)) (div-mul-add q g.vcs w k)
    ∙ ap (leads g m (r, p) v t q) (mod-mul-add q g.vcs w k)

-- a member of the set of the place where a channel arrives: packets come on
-- it, and the rule leads on
permitted-lead : (g : RelationParts) (sets left outs : List ℕ) → IsMade g sets left outs → (m : ℕ) (c : Channel) (t r p q w : ℕ) → is_sent (table g left) c ≡ true → arrival_of g.grid c ≡ Some (r, p)
    → w < g.vcs → has_bit (set_at (table g left) m r p (channel_vc c) t) (q * g.vcs + w) ≡ true → IsReached g m c t × (leads g m (r, p) (channel_vc c) t q w ≡ true)
permitted-lead g sets left outs made m c t r p q w sent e small has =
    let v = channel_vc c in
    let i = p * g.vcs + v in
    let member = set_at-member (table g left) m r p v t (q * g.vcs + w) has in
    let there = member.0 in
    let place : IsPage (table g sets) m r t = record { class = there.place.class; router = there.place.router; dst = there.place.dst } in
    let within : i < width g.grid g.vcs = flat-below p (ports g.grid) v g.vcs there.port there.vc in
    let come = member-come g sets left outs made m r t i (q * g.vcs + w) place within member.1 in
    let came = CameOn-come g sets made.good made.entered m t r i come.0 in
    let port : i / g.vcs ≡ p = div-mul-add p g.vcs v there.vc in
    let number : i % g.vcs ≡ v = mod-mul-add p g.vcs v there.vc in
    let same : came.channel ≡ c = same-channel g.grid sets g.vcs g.classes came.channel c (r, p) made.good.grid came.sent sent (came.arrives ∙ ap (λ x. Some (r, x)) port) e (came.vc ∙ number) in
    let P : Channel → Type 0 = λ c. IsReached g m c t in
    let led = member-leads g sets m r t i (q * g.vcs + w) made.entered place within come.1 in
    (subst P same came.reached, sym (leads-index g m r p v t q w there.vc small) ∙ led.1)

-- where packets come on a channel and the rule leads on, there is a member
lead-permitted : (g : RelationParts) (sets left outs : List ℕ) → IsMade g sets left outs → (m : ℕ) (c : Channel) (t : ℕ) (place : ℕ × ℕ) (q w : ℕ) → IsReached g m c t → arrival_of g.grid c ≡ Some place
    → q < ports g.grid → leads g m place (channel_vc c) t q w ≡ true
    → (w < g.vcs) × (is_sent (table g left) c ≡ true) × (has_bit (set_at (table g left) m place.0 place.1 (channel_vc c) t) (q * g.vcs + w) ≡ true)
lead-permitted g sets left outs made m c t place q w reached e l lead =
    let v = channel_vc c in
    let i = place.1 * g.vcs + v in
    let on = ComesOn-reached g sets made.good made.entered m c t reached place e in
    let within = CanCome-within (table g sets) m t place.0 i (sized g sets made.good) on.come in
    let small : w < g.vcs = leads-vc g m place.0 place.1 v t q w made.good within.0.class lead in
    let port : i / g.vcs ≡ place.1 = div-mul-add place.1 g.vcs v on.vc in
    let inside : place.1 < ports g.grid = omega (arith, port, port-below g.grid g.vcs i (some_vcs g made.good) within.1) in
    let there : Exists (table g left) m place.0 place.1 v t
    = record { place = record { class = within.0.class; router = within.0.router; dst = within.0.dst }; port = inside; vc = on.vc } in
    let has = leads-member g sets m place.0 t i (q * g.vcs + w) made.entered within.0 within.1 (flat-below q (ports g.grid) w g.vcs l small) (leads-index g m place.0 place.1 v t q w on.vc small ∙ lead) in
    (small, on.sent, ap (λ s. has_bit s (q * g.vcs + w)) (set_at-exists (table g left) m place.0 place.1 v t there ∙ kept-set g sets left outs made m place.0 t i on.come) ∙ has)

permits-permitted : (g : RelationParts) (sets left outs : List ℕ) → IsMade g sets left outs → (m : ℕ) (c : Channel) (t : ℕ) (o : Channel) → permits (table g left) m c t o ≡ true → IsPermitted g m c t o
permits-permitted g sets left outs made m c t o e = at o (and_parts (is_sent (table g left) c) (permits_at (table g left) m (arrival_of g.grid c) (channel_vc c) t o) e)
  where
    over : (o : Channel) (from : Option (ℕ × ℕ)) → arrival_of g.grid c ≡ from → is_sent (table g left) c ≡ true → permits_at (table g left) m from (channel_vc c) t o ≡ true → IsPermitted g m c t o
    over o None f sent h = absurd (false≢true h)
    over (Inject n v) (Some place) f sent h = absurd (false≢true h)
    over (Link r p w) (Some place) f sent h =
        let a = and_parts _ (has_bit (set_at (table g left) m place.0 place.1 (channel_vc c) t) (p * g.vcs + w)) h in
        let b = and_parts _ (nat_lt w g.vcs) a.0 in
        let d = and_parts (nat_eq r place.0) (nat_lt p (local_port g.grid)) b.0 in
        let lead = permitted-lead g sets left outs made m c t place.0 place.1 p w sent f (ltb-true _ _ b.1) a.1 in
        let has : rule_has g m c t (Link place.0 p w) ≡ true = rule-link g m c t place.0 place.1 (channel_vc c) p w f refl (ltb-true _ _ d.1) lead.1 in
        (lead.0, ap (λ r. rule_has g m c t (Link r p w)) (eqb-true _ _ d.0) ∙ has)
    over (Eject r w) (Some place) f sent h =
        let a = and_parts _ (has_bit (set_at (table g left) m place.0 place.1 (channel_vc c) t) (local_port g.grid * g.vcs + w)) h in
        let b = and_parts (nat_eq r place.0) (nat_lt w g.vcs) a.0 in
        let lead = permitted-lead g sets left outs made m c t place.0 place.1 (local_port g.grid) w sent f (ltb-true _ _ b.1) a.1 in
        let has : rule_has g m c t (Eject place.0 w) ≡ true = rule-eject g m c t place.0 place.1 (channel_vc c) w f refl lead.1 in
        (lead.0, ap (λ r. rule_has g m c t (Eject r w)) (eqb-true _ _ b.0) ∙ has)

    at : (o : Channel) → (is_sent (table g left) c ≡ true) × (permits_at (table g left) m (arrival_of g.grid c) (channel_vc c) t o ≡ true) → IsPermitted g m c t o
    at o h = over o (arrival_of g.grid c) refl h.0 h.1

pub no-inject : (g : RelationParts) (m : ℕ) (from : Option (ℕ × ℕ)) (v t n w : ℕ) → rule_offers g m from v t (Inject n w) ≡ true → ⊥
no-inject g m None v t n w e = false≢true e
no-inject g m (Some place) v t n w e = false≢true e

permitted-permits : (g : RelationParts) (sets left outs : List ℕ) → IsMade g sets left outs → (m : ℕ) (c : Channel) (t : ℕ) (o : Channel) → IsReached g m c t → rule_has g m c t o ≡ true → permits (table g left) m c t o ≡ true
permitted-permits g sets left outs made m c t (Inject n v) reached e = absurd (no-inject g m (arrival_of g.grid c) (channel_vc c) t n v e)
permitted-permits g sets left outs made m c t (Link r p w) reached e =
    let next = next-link g m (arrival_of g.grid c) (channel_vc c) t r p w e in
    let h = lead-permitted g sets left outs made m c t next.0.place p w reached next.0.from_there (omega (arith, next.1)) next.0.lead in
    let here = eq-eqb r next.0.place.0 next.0.router in
    let port = lt-ltb p (local_port g.grid) next.1 in
    let vc = lt-ltb w g.vcs h.0 in
    ap (λ from. is_sent (table g left) c && permits_at (table g left) m from (channel_vc c) t (Link r p w)) next.0.from_there ∙ rw (h.1, here, port, vc, h.2) refl
permitted-permits g sets left outs made m c t (Eject r w) reached e =
    let next = next-eject g m (arrival_of g.grid c) (channel_vc c) t r w e in
    let h = lead-permitted g sets left outs made m c t next.place (local_port g.grid) w reached next.from_there (omega arith) next.lead in
    let here = eq-eqb r next.place.0 next.router in
    let vc = lt-ltb w g.vcs h.0 in
    ap (λ from. is_sent (table g left) c && permits_at (table g left) m from (channel_vc c) t (Eject r w)) next.from_there ∙ rw (h.1, here, vc, h.2) refl

pub exact : (g : RelationParts) (sets left outs : List ℕ) → IsMade g sets left outs → (m : ℕ) (c : Channel) (t : ℕ) (o : Channel) → IsTrue (permits (table g left) m c t o) ↔ IsPermitted g m c t o
exact g sets left outs made m c t o = ((λ e. permits-permitted g sets left outs made m c t o e), (λ h. permitted-permits g sets left outs made m c t o h.0 h.1))

-- ---- what is known of it

-- a set that is not empty, with no member past n, has a member
pub some_member : (set n : ℕ) → ((k : ℕ) → has_bit set k ≡ true → k < n) → nat_eq set 0 ≡ false → (k : ℕ) × (has_bit set k ≡ true)
some_member set n within e = at (any_below n (has_bit set)) refl
  where
    none : any_below n (has_bit set) ≡ false → (k : ℕ) (b : Bool) → has_bit set k ≡ b → has_bit set k ≡ false
    none f k true h = absurd (false≢true (sym f ∙ any_below-at n (has_bit set) k (within k h) h))
    none f k false h = h

    at : (b : Bool) → any_below n (has_bit set) ≡ b → (k : ℕ) × (has_bit set k ≡ true)
    at true f = let found = any_below-some n (has_bit set) f in (found.0, found.2)
    at false f = absurd (false≢true (sym e ∙ eq-eqb set 0 (zero_from_none set (λ k. none f k (has_bit set k) refl))))

-- no entry to which packets come is empty
abbrev pub IsUnstuck : RelationParts → List ℕ → List ℕ → Type 0
IsUnstuck g left outs = (b i : ℕ) → b < pages g.grid g.classes → i < width g.grid g.vcs → is_stuck_at (table g left) outs b i ≡ false

-- where packets come, something is permitted
come-permits : (g : RelationParts) (sets left outs : List ℕ) → IsMade g sets left outs → IsUnstuck g left outs → (m r t i : ℕ) → CanCome (table g sets) m t r i
    → (k : ℕ) × (has_bit (set_in (table g left) m r t i) k ≡ true)
come-permits g sets left outs made unstuck m r t i come =
    let within = CanCome-within (table g sets) m t r i (sized g sets made.good) come in
    let b = page_of g.grid g.classes m r t in
    let below = page-below g.grid g.classes m r t within.0.class within.0.router within.0.dst in
    let came = λ (m r t : ℕ). comes_in (table g sets) outs m r t i in
    let comes : comes_at (table g left) outs b i ≡ true
    = ap (λ x. came x (b / nodes g.grid / g.classes) (b % nodes g.grid)) (page-class g.grid g.classes m r t within.0.dst within.0.class)
    ∙ ap (λ x. came m x (b % nodes g.grid)) (page-sender g.grid g.classes m r t within.0.dst within.0.class)
    ∙ ap (came m r) (page-dst g.grid g.classes m r t within.0.dst) ∙ comes-true g sets left outs made m r t i come in
    let free : nat_eq (set_in (table g left) m r t i) 0 ≡ false = sym (ap (λ x. x && nat_eq (page_set (table g left) b i) 0) comes) ∙ unstuck b i below within.1 in
    some_member (set_in (table g left) m r t i) (width g.grid g.vcs)
    (λ k has. (member-leads g sets m r t i k made.entered within.0 within.1 (member-come g sets left outs made m r t i k within.0 within.1 has).1).0) free

-- where packets come, something is permitted, by the entry's numbers
come-permits_at : (g : RelationParts) (sets left outs : List ℕ) → IsMade g sets left outs → IsUnstuck g left outs → (m r t p v : ℕ) → v < g.vcs → CanCome (table g sets) m t r (p * g.vcs + v)
    → (k : ℕ) × (has_bit (set_at (table g left) m r p v t) k ≡ true)
come-permits_at g sets left outs made unstuck m r t p v l come =
    let within = CanCome-within (table g sets) m t r (p * g.vcs + v) (sized g sets made.good) come in
    let port : (p * g.vcs + v) / g.vcs ≡ p = div-mul-add p g.vcs v l in
    let inside : p < ports g.grid = omega (arith, port, port-below g.grid g.vcs (p * g.vcs + v) (some_vcs g made.good) within.1) in
    let there : Exists (table g left) m r p v t = record { place = record { class = within.0.class; router = within.0.router; dst = within.0.dst }; port = inside; vc = l } in
    let found = come-permits g sets left outs made unstuck m r t (p * g.vcs + v) come in
    (found.0, ap (λ s. has_bit s found.0) (set_at-exists (table g left) m r p v t there) ∙ found.1)

-- a member at an entry: packets come there, and the rule leads on
pub record Member (g : RelationParts) (sets : List ℕ) (m r p v t k : ℕ) : Type 0 where
  pub class : m < g.classes
  pub router : r < nodes g.grid
  pub port : p < ports g.grid
  pub vc : v < g.vcs
  pub dst : t < nodes g.grid
  pub come : CanCome (table g sets) m t r (p * g.vcs + v)
  pub has : has_bit (set_in (table g sets) m r t (p * g.vcs + v)) k ≡ true
  pub real : k < width g.grid g.vcs
  pub lead : leads g m (r, (p * g.vcs + v) / g.vcs) ((p * g.vcs + v) % g.vcs) t (k / g.vcs) (k % g.vcs) ≡ true

member-at : (g : RelationParts) (sets left outs : List ℕ) → IsMade g sets left outs → (m r p v t k : ℕ) → has_bit (set_at (table g left) m r p v t) k ≡ true → Member g sets m r p v t k
member-at g sets left outs made m r p v t k e =
    let member = set_at-member (table g left) m r p v t k e in
    let there = member.0 in
    let place : IsPage (table g sets) m r t = record { class = there.place.class; router = there.place.router; dst = there.place.dst } in
    let within : p * g.vcs + v < width g.grid g.vcs = flat-below p (ports g.grid) v g.vcs there.port there.vc in
    let come = member-come g sets left outs made m r t (p * g.vcs + v) k place within member.1 in
    let led = member-leads g sets m r t (p * g.vcs + v) k made.entered place within come.1 in
    record {
      class = there.place.class;
      router = there.place.router;
      port = there.port;
      vc = there.vc;
      dst = there.place.dst;
      come = come.0;
      has = come.1;
      real = led.0;
      lead = led.1;
    }

-- packets come to an entry from the local port, or by a permitted channel of the router before
came-from : (g : RelationParts) (sets left outs : List ℕ) → IsMade g sets left outs → (m r p v t i : ℕ) → v < g.vcs → i ≡ p * g.vcs + v → CanCome (table g sets) m t r i
    → ((p ≡ local_port g.grid) × (r ≢ t)) ⊎ HasLead (table g left) m r p v t
came-from g sets left outs made m r p v t i l is (come_injected {v = w} place away k e) =
    let port : p ≡ local_port g.grid = sym (div-mul-add p g.vcs v l) ∙ ap (λ x. x / g.vcs) (sym is ∙ e) ∙ div-mul-add (local_port g.grid) g.vcs w k in
    inl (port, (λ same. away (sym same)))
came-from g sets left outs made m r p v t i l is (come_led {r = a} {i = j} {k = k} {q = q} come small has link e) =
    let within = CanCome-within (table g sets) m t a j (sized g sets made.good) come in
    let vc : k % g.vcs < g.vcs = mod-lt k {m = g.vcs} (omega (arith, some_vcs g made.good)) in
    let port : q ≡ p = sym (div-mul-add q g.vcs (k % g.vcs) vc) ∙ ap (λ x. x / g.vcs) (sym e ∙ is) ∙ div-mul-add p g.vcs v l in
    let number : k % g.vcs ≡ v = sym (mod-mul-add q g.vcs (k % g.vcs) vc) ∙ ap (λ x. x % g.vcs) (sym e ∙ is) ∙ mod-mul-add p g.vcs v l in
    let there : Exists (table g left) m a (j / g.vcs) (j % g.vcs) t
    = record { place = record { class = within.0.class; router = within.0.router; dst = within.0.dst }; port = port-below g.grid g.vcs j (some_vcs g made.good) within.1; vc = mod-lt j {m = g.vcs} (omega (arith, some_vcs g made.good)) } in
    inr (record {
      router = a;
      in_port = j / g.vcs;
      in_vc = j % g.vcs;
      channel = k;
      link = link ∙ ap (λ x. Some (r, x)) port;
      vc = number;
      permitted
          = ap (λ s. has_bit s k)
          (set_at-exists (table g left) m a (j / g.vcs) (j % g.vcs) t there ∙ ap (set_in (table g left) m a t) (index-parts g.vcs j) ∙ kept-set g sets left outs made m a t j come)
          ∙ has;
    })

pub IsRelation-made : (g : RelationParts) (sets left outs : List ℕ) → IsMade g sets left outs → IsUnstuck g left outs → HasTableSize (table g left) → IsRelation (table g left)
IsRelation-made g sets left outs made unstuck size = record {
  table = size;
  real = λ m r p v t k e. (member-at g sets left outs made m r p v t k e).real;
  nearer = λ m r p v t k e l.
      let h = member-at g sets left outs made m r p v t k e in
      let hop = leads-hop g m r _ _ t (k / g.vcs) (k % g.vcs) made.good l h.lead in
      record { to = hop.to; link = hop.link; nearer = hop.nearer };
  home = λ m r p v t k e l.
      let h = member-at g sets left outs made m r p v t k e in
      leads-home g m r _ _ t (k % g.vcs) made.good (sym (ap (λ x. leads g m (r, (p * g.vcs + v) / g.vcs) ((p * g.vcs + v) % g.vcs) t x (k % g.vcs)) l) ∙ h.lead);
  injected = λ m r v t a b c d away. come-permits_at g sets left outs made unstuck m r t (local_port g.grid) v c (come_injected (record { class = a; router = b; dst = d }) away c refl);
  led_on = λ m r p v t k b q e link.
      let h = member-at g sets left outs made m r p v t k e in
      come-permits_at g sets left outs made unstuck m b t q (k % g.vcs) (mod-lt k {m = g.vcs} (omega (arith, some_vcs g made.good))) (come_led h.come h.real h.has link refl);
  reached = λ m r p v t k e.
      let h = member-at g sets left outs made m r p v t k e in
      came-from g sets left outs made m r p v t (p * g.vcs + v) h.vc refl h.come;
}
