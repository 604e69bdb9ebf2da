-- What the fields of a network say of its run.
use Rattle.std.proofs.Common.{◌≡◌, ℕ, ◌<◌, ◌≤◌, ◌+◌, Bool, true, false, cond, List, [], ◌∷◌, Option, Some, None, length, get_or, take, fold, refl, ap, sym, ◌∙◌, inl, inr, arith, vec_len}
use Rattle.std.specs.Prelude.{◌||◌, ◌⊎◌, nat_lt}
use Rattle.std.specs.List.{All, list_any}
use Rattle.std.proofs.lemmas.Bool.{ltb-true, ltb-false}
use Rattle.std.proofs.lemmas.Option.{same_Some}
use Rattle.std.proofs.lemmas.List.{take_all}
use Rattle.std.proofs.lemmas.List.Folds.{list_any_more, list_any_at}
use Rattle.noc_topo.specs.Lists.{Has, below, tabulate}
use Rattle.noc_topo.specs.Shape.{nodes}
use Rattle.noc_topo.proofs.ListLemmas.{length-below, get_or-below, length-tabulate, get_or-tabulate}
use Rattle.noc_view.specs.View.{View}
use Rattle.noc_net.specs.declared.parts.Parts.{Parts}
use Rattle.noc_net.specs.Parts.{AreParts, run_in, setup_in}
use Rattle.noc_net.specs.Latest.{later_of, latest_of}
use Rattle.noc_theory.specs.Lockstep.{last_event_at, site_at, view_at, view_in}
use Rattle.noc_theory.specs.Network.{Run, Setup}
use Rattle.noc_theory.specs.Progress.{last_event_before}
use Rattle.noc_theory.proofs.worms.GrantLemmas.{Has-below}
use Rattle.noc_theory.proofs.worms.MemberLemmas.{Has-map, Has-mapped}
use Rattle.noc_theory.proofs.worms.OpeningLemmas.{below-has}
use Rattle.noc_theory.proofs.join.LastEventLemmas.{last-is}

pub count_routers : (parts : Parts) → AreParts parts → vec_len parts.routers ≡ nodes parts.relation.grid
count_routers parts sound =
    let count : length parts.routers.items ≡ nodes parts.relation.grid = ap length sound.views ∙ length-tabulate (nodes parts.relation.grid) (view_at (setup_in parts) parts.count) in
    omega (arith, parts.routers.ok.0)

-- the router of a node is seen as the network's state has it
pub router_at : (parts : Parts) → AreParts parts → (u : Run) → run_in parts ≡ u → (r : ℕ) (v : View) → r < nodes parts.relation.grid → v ≡ get_or parts.routers.items r v → v ≡ view_at u.net u.count r
router_at parts sound u is r v l read =
    read ∙ ap (λ vs. get_or vs r v) sound.views
    ∙ get_or-tabulate (nodes parts.relation.grid) r (view_at (setup_in parts) parts.count) v l
    ∙ ap (λ (w : Run). view_at w.net w.count r) is

site-seen : (u : Run) (r : ℕ) → (view_at u.net u.count r).site ≡ site_at u.net r
unfolding view_at view_in
site-seen u r = refl

-- the router of a node stands at its node
pub router_site : (parts : Parts) → AreParts parts → (r : ℕ) (v : View) → r < nodes parts.relation.grid → v ≡ get_or parts.routers.items r v → v.site ≡ site_at (setup_in parts) r
router_site parts sound r v l read = ap (λ (w : View). w.site) (router_at parts sound (run_in parts) refl r v l read) ∙ site-seen (run_in parts) r

-- no number below the next passes
pub none_more : (test : ℕ → Bool) (n k : ℕ) → k < n → list_any test (take k (below n)) ≡ false → test k ≡ false → list_any test (take (k + 1) (below n)) ≡ false
none_more test n k l none here =
    list_any_more test (below n) k 0 (let c = length-below n in omega arith)
    ∙ ap (λ b. b || test (get_or (below n) k 0)) none
    ∙ ap test (get_or-below n k 0 l) ∙ here

pub some_here : (test : ℕ → Bool) (n k : ℕ) → k < n → test k ≡ true → list_any test (below n) ≡ true
some_here test n k l here = list_any_at test (below n) k 0 (let c = length-below n in omega arith) (ap test (get_or-below n k 0 l) ∙ here)

pub none_all : (test : ℕ → Bool) (n k : ℕ) → n ≤ k → list_any test (take k (below n)) ≡ false → list_any test (below n) ≡ false
none_all test n k l none = ap (list_any test) (sym (take_all k (below n) (let c = length-below n in omega arith))) ∙ none

-- ---- the last event, and misfits

event-seen : (net : Setup) (n r : ℕ) → (view_at net n r).last_event ≡ last_event_at net n r
unfolding view_at
event-seen net n r = refl

-- the later of two cycles is as late as each of them, and is one of them
later-left : (a b : Option ℕ) (m : ℕ) → a ≡ Some m → (k : ℕ) × (later_of a b ≡ Some k) × (m ≤ k)
later-left None b m e = absurd (cc e)
later-left (Some a) None m e = (a, refl, let s : a ≡ m = same_Some a m e in omega arith)
later-left (Some a) (Some b) m e = by (nat_lt a b) refl
  where
    by : (t : Bool) → nat_lt a b ≡ t → (k : ℕ) × (cond t (Some b) (Some a) ≡ Some k) × (m ≤ k)
    by true f = (b, refl, let s : a ≡ m = same_Some a m e in let l = ltb-true a b f in omega arith)
    by false f = (a, refl, let s : a ≡ m = same_Some a m e in omega arith)

later-right : (a b : Option ℕ) (m : ℕ) → b ≡ Some m → (k : ℕ) × (later_of a b ≡ Some k) × (m ≤ k)
later-right None b m e = (m, e, omega arith)
later-right (Some a) None m e = absurd (cc e)
later-right (Some a) (Some b) m e = by (nat_lt a b) refl
  where
    by : (t : Bool) → nat_lt a b ≡ t → (k : ℕ) × (cond t (Some b) (Some a) ≡ Some k) × (m ≤ k)
    by true f = (b, refl, let s : b ≡ m = same_Some b m e in omega arith)
    by false f = (a, refl, let s : b ≡ m = same_Some b m e in let l = ltb-false a b f in omega arith)

later-one : (a b : Option ℕ) (k : ℕ) → later_of a b ≡ Some k → (a ≡ Some k) ⊎ (b ≡ Some k)
later-one None b k e = inr e
later-one (Some a) None k e = inl e
later-one (Some a) (Some b) k e = by (nat_lt a b) e
  where
    by : (t : Bool) → cond t (Some b) (Some a) ≡ Some k → (Some a ≡ Some k) ⊎ (Some b ≡ Some k)
    by true f = inr f
    by false f = inl f

-- the latest from some cycle on
abbrev latest_from : Option ℕ → List View → Option ℕ
latest_from first views = fold (λ (last : Option ℕ) (v : View). later_of last v.last_event) first views

from-first : (views : List View) (first : Option ℕ) (m : ℕ) → first ≡ Some m → (k : ℕ) × (latest_from first views ≡ Some k) × (m ≤ k)
from-first [] first m e = (m, e, omega arith)
from-first (v ∷ vs) first m e =
    let a = later-left first v.last_event m e in
    let b = from-first vs (later_of first v.last_event) a.0 a.1 in
    let x = a.2 in
    let y = b.2 in
    (b.0, b.1, omega arith)

from-each : (views : List View) (first : Option ℕ) (v : View) (m : ℕ) → Has v views → v.last_event ≡ Some m → (k : ℕ) × (latest_from first views ≡ Some k) × (m ≤ k)
from-each [] first v m h e = elim h [ ]
from-each (w ∷ ws) first v m (inl s) e =
    let a = later-right first w.last_event m (ap (λ (x : View). x.last_event) (sym s) ∙ e) in
    let b = from-first ws (later_of first w.last_event) a.0 a.1 in
    let x = a.2 in
    let y = b.2 in
    (b.0, b.1, omega arith)
from-each (w ∷ ws) first v m (inr h) e = from-each ws (later_of first w.last_event) v m h e

from-one : (views : List View) (first : Option ℕ) (k : ℕ) → latest_from first views ≡ Some k → (first ≡ Some k) ⊎ ((v : View) × Has v views × (v.last_event ≡ Some k))
from-one [] first k e = inl e
from-one (w ∷ ws) first k e = by (from-one ws (later_of first w.last_event) k e)
  where
    here : (first ≡ Some k) ⊎ (w.last_event ≡ Some k) → (first ≡ Some k) ⊎ ((v : View) × Has v (w ∷ ws) × (v.last_event ≡ Some k))
    here (inl y) = inl y
    here (inr y) = inr (w, inl refl, y)

    by : (later_of first w.last_event ≡ Some k) ⊎ ((v : View) × Has v ws × (v.last_event ≡ Some k)) → (first ≡ Some k) ⊎ ((v : View) × Has v (w ∷ ws) × (v.last_event ≡ Some k))
    by (inl x) = here (later-one first w.last_event k x)
    by (inr x) = inr (x.0, inr x.1, x.2)

-- each element of a table is of some place
tabulated : {X : Type 0} (n : ℕ) (f : ℕ → X) (x : X) → Has x (tabulate n f) → (i : ℕ) × (i < n) × (f i ≡ x)
unfolding tabulate
tabulated n f x h = let m = Has-map f x (below n) h in (m.0, Has-below m.0 n m.1, m.2)

tabulate-has : {X : Type 0} (n : ℕ) (f : ℕ → X) (i : ℕ) → i < n → Has (f i) (tabulate n f)
unfolding tabulate
tabulate-has n f i l = Has-mapped f i (below n) (below-has i n l)

-- the latest event of the routers is the last of the network
pub latest-is : (parts : Parts) → AreParts parts → (u : Run) → run_in parts ≡ u → (last : Option ℕ) (views : List View) → views ≡ parts.routers.items → last ≡ latest_of views → last ≡ last_event_before u.net u.count
latest-is parts sound u is last views same e =
    let net = setup_in parts in
    let n = parts.count in
    let size = nodes parts.relation.grid in
    let all : last ≡ latest_of (tabulate size (view_at net n)) = e ∙ ap latest_of (same ∙ sound.views) in
    last-is net sound.good n last
    (λ r m l f.
    let b = from-each (tabulate size (view_at net n)) None (view_at net n r) m (tabulate-has size (view_at net n) r l) (event-seen net n r ∙ f) in
    (b.0, all ∙ b.1, b.2))
    (λ k f. one k (from-one (tabulate size (view_at net n)) None k (sym all ∙ f)))
    ∙ ap (λ (w : Run). last_event_before w.net w.count) is
  where
    one : (k : ℕ) → (None ≡ Some k) ⊎ ((v : View) × Has v (tabulate (nodes parts.relation.grid) (view_at (setup_in parts) parts.count)) × (v.last_event ≡ Some k))
        → (r : ℕ) × (r < nodes parts.relation.grid) × (last_event_at (setup_in parts) parts.count r ≡ Some k)
    one k (inl z) = absurd (cc z)
    one k (inr x) =
        let r = tabulated (nodes parts.relation.grid) (view_at (setup_in parts) parts.count) x.0 x.1 in
        (r.0, r.1, sym (event-seen (setup_in parts) parts.count r.0) ∙ ap (λ (v : View). v.last_event) r.2 ∙ x.2)

misfits-seen : (net : Setup) (n r : ℕ) → (view_at net n r).misfits ≡ 0
unfolding view_at view_in
misfits-seen net n r = refl

pub no-misfits : (parts : Parts) → AreParts parts → (views : List View) → views ≡ parts.routers.items → All (λ v. v.misfits ≡ 0) views
no-misfits parts sound views same i d l =
    let size = nodes parts.relation.grid in
    let all : views ≡ tabulate (nodes parts.relation.grid) (view_at (setup_in parts) parts.count) = same ∙ sound.views in
    let count : length views ≡ nodes parts.relation.grid = ap length all ∙ length-tabulate size (view_at (setup_in parts) parts.count) in
    ap (λ (vs : List View). (get_or vs i d).misfits) all
    ∙ ap (λ (v : View). v.misfits) (get_or-tabulate size i (view_at (setup_in parts) parts.count) d (omega arith))
    ∙ misfits-seen (setup_in parts) parts.count i
