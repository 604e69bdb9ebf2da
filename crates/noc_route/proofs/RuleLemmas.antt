-- What a rule leads to.
use Rattle.std.proofs.Common.{◌≡◌, ◌≢◌, ℕ, suc, ◌+◌, ◌*◌, ◌/◌, ◌%◌, ◌<◌, ◌≤◌, Bool, true, false, List, [], ◌∷◌, length, get_or, Option, Some, None, refl, sym, subst, ap, ◌∙◌, arith, inl, inr}
use Rattle.std.specs.Prelude.{◌⊎◌, ◌&&◌, not, nat_eq, nat_lt, nat_le, is_some, unwrap_or, All, if◌then◌else◌}
use Rattle.std.specs.List.{list_any}
use Rattle.std.proofs.Math.Nat.{mul-le-mul_right, div-lt_iff_lt-mul}
use Rattle.std.proofs.lemmas.Bool.{eq-eqb, eqb-true, false≢true, and_parts, or_cases, ltb-true, leb-true, le-ltb}
use Rattle.noc_topo.specs.Lists.{is_some_of}
use Rattle.noc_topo.specs.Shape.{Grid, IsGrid, local_port, neighbour, distance, coordinates}
use Rattle.noc_topo.proofs.DistanceLemmas.{hop-by_one}
use Rattle.noc_packet.specs.declared.limits.TheConstants.{MAX_CHANNELS, MAX_CLASSES}
use Rattle.noc_route.specs.Relation.{RelationParts, is_right, fits, takes_port, takes_channel, takes_of_class, names_entry, has_route_row, rows_of, table_rows_of, is_real_row, hop_fault, row_fault, leads, is_led, dor_port, is_nearer}
use Rattle.noc_steps.specs.Ways.{is_of_class, goes_up}
use Rattle.noc_route.specs.declared.rule.Rule.{Rule}
use Rattle.noc_route.specs.declared.rule.Rule.TheVariants.{Dor, Dateline, WestFirst, Adaptive, Rows}
use Rattle.noc_route.specs.declared.rule.RouteRow.{RouteRow}
use Rattle.noc_route.specs.declared.rule.RouteFault.{RouteFault}
use Rattle.noc_route.specs.declared.rule.RouteFault.TheVariants.{NoLink, NotMinimal, EarlyEject, LateHop}
use Rattle.noc_route.proofs.EnterLemmas.{NamesIt, is_row_of-parts, IsRealRow, IsRealRow-from_test, leads-named, leads-rows}
use Rattle.noc_route.proofs.AdaptiveLemmas.{nearer-link, NearerHop-adaptive}
use Rattle.noc_route.proofs.NamedLemmas.{NearerHop, NearerHop-dor, dor_port_from-some, some_of-true}
use Rattle.noc_route.specs.Built.{routing_of}

-- ---- rows without a fault

pub some_row : (test : RouteRow → Bool) (rows : List RouteRow) → list_any test rows ≡ true → (k : ℕ) × (k < length rows) × ((d : RouteRow) → test (get_or rows k d) ≡ true)
some_row test [] e = absurd (false≢true e)
some_row test (row ∷ rows) e = at (some_row test rows) (or_cases (test row) (list_any test rows) e)
  where
    at : (list_any test rows ≡ true → (k : ℕ) × (k < length rows) × ((d : RouteRow) → test (get_or rows k d) ≡ true)) → (test row ≡ true) ⊎ (list_any test rows ≡ true)
        → (k : ℕ) × (k < length (row ∷ rows)) × ((d : RouteRow) → test (get_or (row ∷ rows) k d) ≡ true)
    at more (inl here) = (0, omega arith, λ d. here)
    at more (inr rest) = let found = more rest in (suc found.0, omega (arith, found.1), found.2)

no-fault : (fault : RouteFault) → Some fault ≡ None → ⊥
no-fault fault e = cc

-- a row without a fault is real, and its hop is right
row_fault-none : (g : Grid) (vcs classes : ℕ) (row : RouteRow) → row_fault g vcs classes row ≡ None
    → (is_real_row g vcs classes row ≡ true) × (hop_fault g row (neighbour g row.router row.out_port) ≡ None)
row_fault-none g vcs classes row e = at (is_real_row g vcs classes row) refl
  where
    at : (b : Bool) → is_real_row g vcs classes row ≡ b → (is_real_row g vcs classes row ≡ true) × (hop_fault g row (neighbour g row.router row.out_port) ≡ None)
    at true f = (f, sym (rw f refl) ∙ e)
    at false f = absurd (no-fault (NoLink row) (sym (rw f refl) ∙ e))

-- at the local port it is at the destination
hop_fault-home : (g : Grid) (row : RouteRow) → hop_fault g row None ≡ None → row.router ≡ row.dst
hop_fault-home g row e = at (nat_eq row.router row.dst) refl
  where
    at : (b : Bool) → nat_eq row.router row.dst ≡ b → row.router ≡ row.dst
    at true f = eqb-true row.router row.dst f
    at false f = absurd (no-fault (EarlyEject row) (sym (rw f refl) ∙ e))

-- over a link it comes nearer
hop_fault-nearer : (g : Grid) (row : RouteRow) (next : ℕ × ℕ) → hop_fault g row (Some next) ≡ None → distance g next.0 row.dst < distance g row.router row.dst
hop_fault-nearer g row next e = at (nat_eq row.router row.dst) refl (nat_lt (distance g next.0 row.dst) (distance g row.router row.dst)) refl
  where
    at : (b : Bool) → nat_eq row.router row.dst ≡ b → (c : Bool) → nat_lt (distance g next.0 row.dst) (distance g row.router row.dst) ≡ c → distance g next.0 row.dst < distance g row.router row.dst
    at true f c h = absurd (no-fault (LateHop row) (sym (rw f refl) ∙ e))
    at false f true h = ltb-true _ _ h
    at false f false h = absurd (no-fault (NotMinimal row) (sym (rw (f, h) refl) ∙ e))

-- ---- a rule without a fault

-- what is made routing_of right numbers, and routing_of rows without a fault
pub record IsWellMade (g : RelationParts) : Type 0 where
  pub grid : IsGrid g.grid
  pub right : is_right g.grid g.vcs g.classes g.rule ≡ true
  pub rows : All (λ row. row_fault g.grid g.vcs g.classes row ≡ None) (table_rows_of g.rule)

-- the row routing_of a table that leads on
pub record LeadingRow (g : RelationParts) (m r p v t q w : ℕ) : Type 0 where
  pub row : RouteRow
  pub names : NamesIt m r p v t q w row
  pub faultless : row_fault g.grid g.vcs g.classes row ≡ None

zero_row : RouteRow
zero_row = record { class = 0; router = 0; in_port = 0; in_vc = 0; dst = 0; out_port = 0; out_vc = 0 }

leading-row : (g : RelationParts) (rows : List RouteRow) (m r p v t q w : ℕ) → All (λ row. row_fault g.grid g.vcs g.classes row ≡ None) rows → has_route_row rows m (r, p) v t q w ≡ true → LeadingRow g m r p v t q w
leading-row g rows m r p v t q w good e =
    let found = some_row (names_entry m (r, p) v t q w) rows e in
    record { row = get_or rows found.0 zero_row; names = is_row_of-parts m r p v t q w (get_or rows found.0 zero_row) (found.2 zero_row); faultless = good found.0 zero_row found.1 }

-- ---- the channel

-- the limits routing_of right numbers
pub record IsRight (vcs classes : ℕ) : Type 0 where
  pub some_vcs : 1 ≤ vcs
  pub few_vcs : vcs ≤ MAX_CHANNELS
  pub some_classes : 1 ≤ classes
  pub few_classes : classes ≤ MAX_CLASSES

pub IsRight-from_test : (g : Grid) (vcs classes : ℕ) (rule : Rule) → is_right g vcs classes rule ≡ true → IsRight vcs classes
IsRight-from_test g vcs classes rule e =
    let a = and_parts _ (fits g vcs classes rule) e in
    let b = and_parts _ (nat_eq (vcs % classes) 0) a.0 in
    let c = and_parts _ (nat_le classes MAX_CLASSES) b.0 in
    let d = and_parts _ (nat_le 1 classes) c.0 in
    let f = and_parts (nat_le 1 vcs) (nat_le vcs MAX_CHANNELS) d.0 in
    record { some_vcs = leb-true _ _ f.0; few_vcs = leb-true _ _ f.1; some_classes = leb-true _ _ d.1; few_classes = leb-true _ _ c.1 }

page-channel : (vcs classes m v : ℕ) → 1 ≤ classes → m < classes → is_of_class vcs classes m v ≡ true → v < vcs
page-channel vcs classes m v some l e =
    let below : v < (m + 1) * vcs / classes = ltb-true _ _ (and_parts _ (nat_lt v ((m + 1) * vcs / classes)) e).1 in
    let all : (m + 1) * vcs ≤ classes * vcs = mul-le-mul_right {m = m + 1} {n = classes} vcs (omega (arith, l)) in
    let whole : (m + 1) * vcs / classes < vcs + 1 = (div-lt_iff_lt-mul {k = classes} {x = (m + 1) * vcs} {y = vcs + 1} (omega (arith, some))).1 (below_next (m + 1) vcs classes some all) in
    omega (arith, below, whole)
  where
    below_next : (a b c : ℕ) → 1 ≤ c → a * b ≤ c * b → a * b < (b + 1) * c
    below_next a b c some h = omega (arith, h, some)

-- at the destination a rule by coordinates leads to the local port, and elsewhere
-- along a port that it takes
pub record IsLedBy (g : RelationParts) (m r t p v : ℕ) : Type 0 where
  pub page : is_of_class g.vcs g.classes m v ≡ true
  pub way : ((r ≡ t) × (p ≡ local_port g.grid)) ⊎ ((r ≢ t) × (takes_port g.grid g.rule (coordinates g.grid.radix r) (coordinates g.grid.radix t) p ≡ true))

is_led-parts : (g : RelationParts) (m r t p v : ℕ) → is_led g m r t p v ≡ true → IsLedBy g m r t p v
is_led-parts g m r t p v e = at (nat_eq r t) refl
  where
    at : (b : Bool) → nat_eq r t ≡ b → IsLedBy g m r t p v
    at true f =
        let parts = and_parts (nat_eq p (local_port g.grid)) (is_of_class g.vcs g.classes m v) (sym (rw f refl) ∙ e) in
        record { page = parts.1; way = inl (eqb-true r t f, eqb-true p (local_port g.grid) parts.0) }
    at false f =
        let xs = coordinates g.grid.radix r in
        let ts = coordinates g.grid.radix t in
        let parts = and_parts (takes_port g.grid g.rule xs ts p) (takes_channel g.grid g.vcs g.classes g.rule m xs ts p v) (sym (rw f refl) ∙ e) in
        record {
          page = (and_parts (is_of_class g.vcs g.classes m v) (takes_of_class g.grid g.vcs g.classes g.rule xs ts p v) parts.1).0;
          way = inr ((λ same. false≢true (sym f ∙ eq-eqb r t same)), parts.0);
        }

dor-link : (g : Grid) (xs ts : List ℕ) (p : ℕ) → is_some_of (dor_port g xs ts) p ≡ true → p < local_port g
dor-link g xs ts p e =
    let found = dor_port_from-some g.wraps 0 g.radix xs ts p (some_of-true _ p e) in
    below (goes_up g.wraps (get_or g.radix found.0 0) (get_or xs found.0 0) (get_or ts found.0 0)) found.0 found.1 found.3
  where
    below : (b : Bool) (i : ℕ) → i < length g.radix → p ≡ (if b then 2 * (0 + i) else 2 * (0 + i) + 1) → p < local_port g
    below true i l e = omega (arith, l, e)
    below false i l e = omega (arith, l, e)

-- what right numbers for west first say routing_of the shape
pub west-shape : (g : Grid) (vcs classes : ℕ) → is_right g vcs classes WestFirst ≡ true → (g.wraps ≡ false) × (length g.radix ≡ 2)
west-shape g vcs classes e =
    let a = and_parts _ (not g.wraps && nat_eq (length g.radix) 2) e in
    let b = and_parts (not g.wraps) (nat_eq (length g.radix) 2) a.1 in
    (flat g.wraps b.0, eqb-true _ 2 b.1)
  where
    flat : (b : Bool) → not b ≡ true → b ≡ false
    flat true f = absurd (false≢true f)
    flat false f = refl

-- a rule by coordinates takes no local port away from the destination
takes_port-link : (g : Grid) (vcs classes : ℕ) (rule : Rule) (r t p : ℕ) → is_right g vcs classes rule ≡ true → takes_port g rule (coordinates g.radix r) (coordinates g.radix t) p ≡ true → p < local_port g
takes_port-link g vcs classes Dor r t p right e = dor-link g (coordinates g.radix r) (coordinates g.radix t) p e
takes_port-link g vcs classes Dateline r t p right e = dor-link g (coordinates g.radix r) (coordinates g.radix t) p e
takes_port-link g vcs classes WestFirst r t p right e = nearer-link g r t p (and_parts (is_nearer g (coordinates g.radix r) (coordinates g.radix t) p) _ e).0
takes_port-link g vcs classes Adaptive r t p right e = nearer-link g r t p e
takes_port-link g vcs classes (Rows rows) r t p right e = absurd (false≢true e)

-- a rule leads by coordinates, or by a row of its table
leads-cases : (g : RelationParts) (m r p v t q w : ℕ) → IsWellMade g → leads g m (r, p) v t q w ≡ true → (is_led g m r t q w ≡ true) ⊎ LeadingRow g m r p v t q w
leads-cases g m r p v t q w good e = at (rows_of g.rule) refl
  where
    at : (o : Option (List RouteRow)) → rows_of g.rule ≡ o → (is_led g m r t q w ≡ true) ⊎ LeadingRow g m r p v t q w
    at None none = inl (sym (leads-named g m r p v t q w none) ∙ e)
    at (Some rows) table =
        let P : Option (List RouteRow) → Type 0 = λ o. All (λ row. row_fault g.grid g.vcs g.classes row ≡ None) (unwrap_or o []) in
        inr (leading-row g rows m r p v t q w (subst P table good.rows) (sym (leads-rows g rows m r p v t q w table) ∙ e))

pub leads-vc : (g : RelationParts) (m r p v t q w : ℕ) → IsWellMade g → m < g.classes → leads g m (r, p) v t q w ≡ true → w < g.vcs
leads-vc g m r p v t q w good l e = at (leads-cases g m r p v t q w good e)
  where
    at : (is_led g m r t q w ≡ true) ⊎ LeadingRow g m r p v t q w → w < g.vcs
    at (inl led) = page-channel g.vcs g.classes m w (IsRight-from_test g.grid g.vcs g.classes g.rule good.right).some_classes l (is_led-parts g m r t q w led).page
    at (inr lead) =
        let real = IsRealRow-from_test g.grid g.vcs g.classes lead.row (row_fault-none g.grid g.vcs g.classes lead.row lead.faultless).0 in
        omega (arith, real.out_vc, lead.names.out_vc)

-- a rule by coordinates leads along no port past its links, away from the destination
pub is_led-past : (g : RelationParts) (m r t p v : ℕ) → is_right g.grid g.vcs g.classes g.rule ≡ true → nat_eq r t ≡ false → local_port g.grid ≤ p → is_led g m r t p v ≡ false
is_led-past g m r t p v right away past = at (is_led g m r t p v) refl
  where
    at : (b : Bool) → is_led g m r t p v ≡ b → is_led g m r t p v ≡ false
    at false e = e
    at true e = by (is_led-parts g m r t p v e).way
      where
        by : ((r ≡ t) × (p ≡ local_port g.grid)) ⊎ ((r ≢ t) × (takes_port g.grid g.rule (coordinates g.grid.radix r) (coordinates g.grid.radix t) p ≡ true)) → is_led g m r t p v ≡ false
        by (inl home) = absurd (false≢true (sym away ∙ eq-eqb r t home.0))
        by (inr way) = absurd (omega (arith, past, takes_port-link g.grid g.vcs g.classes g.rule r t p right way.1))

-- ---- the hop

named-hop : (grid : Grid) (vcs classes : ℕ) (rule : Rule) (m r t p v : ℕ) → IsGrid grid → is_right grid vcs classes rule ≡ true → p < local_port grid → is_led (routing_of grid vcs classes rule) m r t p v ≡ true → NearerHop grid r p t
named-hop grid vcs classes rule m r t p v sound right l e = at rule right (is_led-parts (routing_of grid vcs classes rule) m r t p v e).way
  where
    at : (rule : Rule) → is_right grid vcs classes rule ≡ true
        → ((r ≡ t) × (p ≡ local_port grid)) ⊎ ((r ≢ t) × (takes_port grid rule (coordinates grid.radix r) (coordinates grid.radix t) p ≡ true)) → NearerHop grid r p t
    at rule right (inl home) = absurd (omega (arith, home.1, l))
    at Dor right (inr way) = NearerHop-dor grid r p t sound l way.1
    at Dateline right (inr way) = NearerHop-dor grid r p t sound l way.1
    at WestFirst right (inr way) = NearerHop-adaptive grid r p t sound l (and_parts (is_nearer grid (coordinates grid.radix r) (coordinates grid.radix t) p) _ way.1).0
    at Adaptive right (inr way) = NearerHop-adaptive grid r p t sound l way.1
    at (Rows rows) right (inr way) = absurd (false≢true way.1)

row-hop : (g : RelationParts) (m r q v t p w : ℕ) → IsGrid g.grid → p < local_port g.grid → LeadingRow g m r q v t p w → NearerHop g.grid r p t
row-hop g m r q v t p w sound l lead = at (neighbour g.grid r p) refl
  where
    good : (is_real_row g.grid g.vcs g.classes lead.row ≡ true) × (hop_fault g.grid lead.row (neighbour g.grid lead.row.router lead.row.out_port) ≡ None)
    good = row_fault-none g.grid g.vcs g.classes lead.row lead.faultless

    real : IsRealRow g.grid g.vcs g.classes lead.row
    real = IsRealRow-from_test g.grid g.vcs g.classes lead.row good.0

    link : neighbour g.grid lead.row.router lead.row.out_port ≡ neighbour g.grid r p
    link = ap (λ x. neighbour g.grid x lead.row.out_port) lead.names.router ∙ ap (neighbour g.grid r) lead.names.out_port

    at : (o : Option (ℕ × ℕ)) → neighbour g.grid r p ≡ o → NearerHop g.grid r p t
    at None e = none (or_cases (nat_eq lead.row.out_port (local_port g.grid)) (is_some (neighbour g.grid lead.row.router lead.row.out_port)) real.out_open)
      where
        none : (nat_eq lead.row.out_port (local_port g.grid) ≡ true) ⊎ (is_some (neighbour g.grid lead.row.router lead.row.out_port) ≡ true) → NearerHop g.grid r p t
        none (inl home) = absurd (omega (arith, eqb-true _ _ home, lead.names.out_port, l))
        none (inr some) = absurd (false≢true (sym (ap (is_some {T = ℕ × ℕ}) (link ∙ e)) ∙ some))
    at (Some to) e =
        let nearer : distance g.grid to.0 lead.row.dst < distance g.grid lead.row.router lead.row.dst = hop_fault-nearer g.grid lead.row to (sym (ap (hop_fault g.grid lead.row) (link ∙ e)) ∙ good.1) in
        let P : ℕ → Type 0 = λ x. distance g.grid to.0 x < distance g.grid lead.row.router x in
        let Q : ℕ → Type 0 = λ x. distance g.grid to.0 t < distance g.grid x t in
        let closer : distance g.grid to.0 t < distance g.grid r t = subst Q lead.names.router (subst P lead.names.dst nearer) in
        record { to = to; link = e; nearer = hop-by_one g.grid r p to.0 to.1 t sound e closer }

-- a link to which a rule leads comes nearer by one
pub leads-hop : (g : RelationParts) (m r q v t p w : ℕ) → IsWellMade g → p < local_port g.grid → leads g m (r, q) v t p w ≡ true → NearerHop g.grid r p t
leads-hop g m r q v t p w good l e = at (leads-cases g m r q v t p w good e)
  where
    at : (is_led g m r t p w ≡ true) ⊎ LeadingRow g m r q v t p w → NearerHop g.grid r p t
    at (inl led) = named-hop g.grid g.vcs g.classes g.rule m r t p w good.grid good.right l led
    at (inr lead) = row-hop g m r q v t p w good.grid l lead

-- the local port has no link
pub local-none : (g : Grid) (r : ℕ) → neighbour g r (local_port g) ≡ None
local-none g r = let past : nat_lt (local_port g) (local_port g) ≡ false = le-ltb (local_port g) (local_port g) (omega arith) in rw past refl

-- ---- the destination

named-home : (grid : Grid) (vcs classes : ℕ) (rule : Rule) (m r t v : ℕ) → is_right grid vcs classes rule ≡ true → is_led (routing_of grid vcs classes rule) m r t (local_port grid) v ≡ true → r ≡ t
named-home grid vcs classes rule m r t v right e = at (is_led-parts (routing_of grid vcs classes rule) m r t (local_port grid) v e).way
  where
    at : ((r ≡ t) × (local_port grid ≡ local_port grid)) ⊎ ((r ≢ t) × (takes_port grid rule (coordinates grid.radix r) (coordinates grid.radix t) (local_port grid) ≡ true)) → r ≡ t
    at (inl home) = home.0
    at (inr way) = absurd (omega (arith, takes_port-link grid vcs classes rule r t (local_port grid) right way.1))

-- a rule leads to the local port at the destination alone
pub leads-home : (g : RelationParts) (m r q v t w : ℕ) → IsWellMade g → leads g m (r, q) v t (local_port g.grid) w ≡ true → r ≡ t
leads-home g m r q v t w good e = at (leads-cases g m r q v t (local_port g.grid) w good e)
  where
    at : (is_led g m r t (local_port g.grid) w ≡ true) ⊎ LeadingRow g m r q v t (local_port g.grid) w → r ≡ t
    at (inl led) = named-home g.grid g.vcs g.classes g.rule m r t w good.right led
    at (inr lead) =
        let right = row_fault-none g.grid g.vcs g.classes lead.row lead.faultless in
        let none : neighbour g.grid lead.row.router lead.row.out_port ≡ None = ap (neighbour g.grid lead.row.router) lead.names.out_port ∙ local-none g.grid lead.row.router in
        sym lead.names.router ∙ hop_fault-home g.grid lead.row (sym (ap (hop_fault g.grid lead.row) none) ∙ right.1) ∙ lead.names.dst
