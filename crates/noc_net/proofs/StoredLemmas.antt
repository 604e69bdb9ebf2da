-- What the fields of a core say of it.
use Rattle.std.proofs.Common.{◌≡◌, ℕ, zero, suc, ◌<◌, ◌≤◌, Bool, true, false, ◌&&◌, List, [], ◌∷◌, length, get_or, set, take, slice_get, Option, Some, None, is_some, vec_len, option_map, unwrap_or, refl, ap, sym, subst, ◌∙◌, ⊎_elim, arith}
use Rattle.std.specs.Vec.{with_item}
use Rattle.std.proofs.lemmas.Bool.{and_parts, cases_lt, false≢true}
use Rattle.std.proofs.lemmas.Option.{same_Some, slice_get_past, slice_get-get_or, get_or_from_slice_get}
use Rattle.std.specs.Prelude.{if◌then◌else◌}
use Rattle.std.specs.List.{list_all}
use Rattle.std.proofs.lemmas.List.{get_or-take, get_or_past, length-set, same_lists}
use Rattle.noc_topo.specs.Lists.{map_indexed, tabulate}
use Rattle.noc_topo.proofs.ListLemmas.{get_or-map_indexed, get_or-tabulate, length-map_indexed, length-tabulate, tabulate-from_each}
use Rattle.noc_topo.proofs.LinkLemmas.{link_back, nodes-some}
use Rattle.noc_packet.specs.declared.packet.Beat.{Beat}
use Rattle.noc_topo.specs.Shape.{local_port, neighbour, nodes}
use Rattle.noc_route.proofs.OptionLemmas.{no-value, some-value}
use Rattle.noc_view.specs.View.{Site, View, IsRelationOf, idle_beat}
use Rattle.noc_theory.specs.declared.event.Event.{Event}
use Rattle.noc_theory.specs.declared.event.Event.TheVariants.{Take, Decide, Put}
use Rattle.noc_theory.specs.declared.limits.TheConstants.{CYCLE_LIMIT}
use Rattle.noc_net.specs.declared.parts.Parts.{Parts}
use Rattle.noc_wires.specs.declared.room.Room.{Room}
use Rattle.noc_theory.specs.Core.{CoreState, Post, are_between, resting_post, beat_to_send, changed_at, happens, has_beat, holds_at, onto_wire, putting, receiving, is_linked, is_ready, may_decide, may_put, may_take, post_at, steps_at, with_post}
use Rattle.noc_theory.specs.InStep.{AreWithin, IsInStep, cycle_of, lockstep_core, lockstep_wires}
use Rattle.noc_theory.specs.Halves.{beat_at}
use Rattle.noc_theory.specs.Lockstep.{lockstep_at, site_at}
use Rattle.noc_theory.specs.Network.{Run, Setup}
use Rattle.noc_theory.proofs.runs.RunLemmas.{count_views, linked_wires, past_wires}
use Rattle.noc_net.specs.Parts.{AreParts, run_in, setup_in}
use Rattle.noc_wires.specs.Room.{front_of, opened_post, opening_wires, post_of, posts_of, rests_at, wires_in}
use Rattle.noc_net.specs.Stored.{core_in}
use Rattle.noc_theory.proofs.runs.CoreLemmas.{get_some, happens_in_step, kept_wire, router_there, router_within}
use Rattle.noc_theory.proofs.runs.EventLemmas.{finished-wires, linked_port, put_post}
use Rattle.noc_theory.proofs.runs.LimitLemmas.{happens-within}
use Rattle.noc_theory.proofs.runs.OrderLemmas.{between-cycle, here_between, room_for_beat, wire_there}
use Rattle.noc_net.proofs.PartsLemmas.{views-in_step, wires-in_step}
use Rattle.noc_theory.proofs.runs.PostLemmas.{router_when}
use Rattle.noc_theory.proofs.runs.SentLemmas.{unlinked_beat, view_site}

-- ---- each router with its room

pub post_there : (n : ℕ) (views : List View) (rooms : List Room) (r : ℕ) (view : View) (room : Room) → slice_get views r ≡ Some view → slice_get rooms r ≡ Some room
    → slice_get (posts_of n views rooms) r ≡ Some (post_of n view room)
post_there n [] rooms r view room p q = absurd (cc p)
post_there n (v ∷ views) [] r view room p q = absurd (cc q)
post_there n (v ∷ views) (m ∷ rooms) zero view room p q =
    ap Some (ap (λ (w : View). post_of n w m) (same_Some v view p) ∙ ap (post_of n view) (same_Some m room q))
post_there n (v ∷ views) (m ∷ rooms) (suc r) view room p q = post_there n views rooms r view room p q

pub length-posts_of : (n : ℕ) (views : List View) (rooms : List Room) → length views ≡ length rooms → length (posts_of n views rooms) ≡ length rooms
length-posts_of n [] rooms e = e
length-posts_of n (v ∷ views) [] e = absurd (omega (arith, e))
length-posts_of n (v ∷ views) (m ∷ rooms) e = let same : length views ≡ length rooms = omega (arith, e) in ap suc (length-posts_of n views rooms same)

-- one router changed
pub posts_set : (n : ℕ) (views : List View) (rooms : List Room) (r : ℕ) (view : View) (room : Room) (f : Post → Post)
    → ((v : View) (m : Room) → slice_get views r ≡ Some v → slice_get rooms r ≡ Some m → post_of n view room ≡ f (post_of n v m))
    → posts_of n (set views r view) (set rooms r room) ≡ changed_at r f (posts_of n views rooms)
posts_set n [] rooms r view room f is = refl
posts_set n (v ∷ views) [] zero view room f is = refl
posts_set n (v ∷ views) [] (suc r) view room f is = refl
posts_set n (v ∷ views) (m ∷ rooms) zero view room f is = ap (λ (p : Post). p ∷ posts_of n views rooms) (is v m refl refl)
posts_set n (v ∷ views) (m ∷ rooms) (suc r) view room f is = ap (λ ps. post_of n v m ∷ ps) (posts_set n views rooms r view room f is)

-- one router's room changed, and its view stays
pub posts_room : (n : ℕ) (views : List View) (rooms : List Room) (r : ℕ) (room : Room) (f : Post → Post)
    → ((v : View) (m : Room) → slice_get views r ≡ Some v → slice_get rooms r ≡ Some m → post_of n v room ≡ f (post_of n v m))
    → posts_of n views (set rooms r room) ≡ changed_at r f (posts_of n views rooms)
posts_room n [] rooms r room f is = refl
posts_room n (v ∷ views) [] zero room f is = refl
posts_room n (v ∷ views) [] (suc r) room f is = refl
posts_room n (v ∷ views) (m ∷ rooms) zero room f is = ap (λ (p : Post). p ∷ posts_of n views rooms) (is v m refl refl)
posts_room n (v ∷ views) (m ∷ rooms) (suc r) room f is = ap (λ ps. post_of n v m ∷ ps) (posts_room n views rooms r room f is)

-- ---- an event that is ready

pub ready_here : (k own : CoreState) (e : Event) → own ≡ k → is_ready CYCLE_LIMIT k e ≡ true → is_ready CYCLE_LIMIT own e ≡ true
ready_here k own e same ready = ap (λ c. is_ready CYCLE_LIMIT c e) same ∙ ready

pub ready_take : (k : CoreState) (r port : ℕ) → is_ready CYCLE_LIMIT k (Take r port) ≡ true
    → (is_linked k.net r port ≡ true) × ((post : Post) × (post_at k r ≡ Some post) × (may_take CYCLE_LIMIT port post ≡ true))
unfolding is_ready
ready_take k r port ready =
    let parts = and_parts (is_linked k.net r port) (holds_at (may_take CYCLE_LIMIT port) (post_at k r)) ready in
    (parts.0, router_when (may_take CYCLE_LIMIT port) (post_at k r) parts.1)

pub ready_decide : (k : CoreState) (r : ℕ) → is_ready CYCLE_LIMIT k (Decide r) ≡ true → (post : Post) × (post_at k r ≡ Some post) × (may_decide CYCLE_LIMIT k.net r post ≡ true)
unfolding is_ready
ready_decide k r ready = router_when (may_decide CYCLE_LIMIT k.net r) (post_at k r) ready

pub ready_put : (k : CoreState) (r port : ℕ) → is_ready CYCLE_LIMIT k (Put r port) ≡ true
    → (is_linked k.net r port ≡ true) × ((post : Post) × (post_at k r ≡ Some post) × (may_put port post ≡ true))
unfolding is_ready
ready_put k r port ready =
    let parts = and_parts (is_linked k.net r port) (holds_at (may_put port) (post_at k r)) ready in
    (parts.0, router_when (may_put port) (post_at k r) parts.1)

pub in_step_after : (own next : CoreState) (e : Event) → IsInStep CYCLE_LIMIT own → is_ready CYCLE_LIMIT own e ≡ true → next ≡ happens own e → IsInStep CYCLE_LIMIT next
in_step_after own next e sound ready is = subst (IsInStep CYCLE_LIMIT) (sym is) (happens_in_step CYCLE_LIMIT own e sound ready)

pub within_after : (own next : CoreState) (e : Event) → IsInStep CYCLE_LIMIT own → AreWithin CYCLE_LIMIT own → is_ready CYCLE_LIMIT own e ≡ true → next ≡ happens own e → AreWithin CYCLE_LIMIT next
within_after own next e sound within ready is = subst (AreWithin CYCLE_LIMIT) (sym is) (happens-within CYCLE_LIMIT own e sound within ready)

pub few_links : (k : CoreState) → IsInStep CYCLE_LIMIT k → local_port k.net.relation.grid ≤ 6
few_links k sound = omega (arith, sound.grid.few_dimensions)

-- ---- a router of the core

-- a router stands at its node
pub router_site : (parts : Parts) → IsInStep CYCLE_LIMIT (core_in parts) → (r : ℕ) (view : View) (room : Room) → slice_get parts.routers.items r ≡ Some view → slice_get parts.room.items r ≡ Some room
    → view.site ≡ site_at (setup_in parts) r
router_site parts sound r view room p q =
    let n = local_port parts.relation.grid in
    let at = post_there n parts.routers.items parts.room.items r view room p q in
    let in_step = sound.posts r (post_of n view room) at in
    view_site (setup_in parts) (cycle_of (post_of n view room)) r view in_step.view

pub router_relation : (parts : Parts) (r : ℕ) (view : View) → view.site ≡ site_at (setup_in parts) r → IsRelationOf parts.relation view
router_relation parts r view site = record { grid = sym (ap (λ (s : Site). s.grid) site); vcs = sym (ap (λ (s : Site). s.vcs) site) }

-- what is read at an index is there
pub read_there : {X : Type 0} (xs : List X) (i : ℕ) (x : X) → i < length xs → x ≡ get_or xs i x → slice_get xs i ≡ Some x
read_there xs i x l e = slice_get-get_or xs i x l ∙ ap Some (sym e)

-- ---- the core after its parts changed

-- the room of one router changed
pub room_changed : (parts : Parts) (r : ℕ) (old room : Room) (f : Post → Post) → old ≡ get_or parts.room.items r old
    → ((v : View) → post_of (local_port parts.relation.grid) v room ≡ f (post_of (local_port parts.relation.grid) v old))
    → core_in (record parts { room = with_item parts.room r room }) ≡ with_post r f (core_in parts)
room_changed parts r old room f read is =
    let n = local_port parts.relation.grid in
    ap (λ (posts : List Post). record (core_in parts) { posts = posts })
    (posts_room n parts.routers.items parts.room.items r room f
    (λ v m at_view at_room. is v ∙ ap (λ (one : Room). f (post_of n v one)) (read ∙ get_or_from_slice_get parts.room.items r m old at_room)))

-- the room of one router changed, and the router too
pub router_changed : (parts : Parts) (r : ℕ) (seen view : View) (old room : Room) (f : Post → Post) → seen ≡ get_or parts.routers.items r seen → old ≡ get_or parts.room.items r old
    → post_of (local_port parts.relation.grid) view room ≡ f (post_of (local_port parts.relation.grid) seen old)
    → core_in (record parts { routers = with_item parts.routers r view; room = with_item parts.room r room }) ≡ with_post r f (core_in parts)
router_changed parts r seen view old room f read read_room is =
    let n = local_port parts.relation.grid in
    ap (λ (posts : List Post). record (core_in parts) { posts = posts })
    (posts_set n parts.routers.items parts.room.items r view room f
    (λ v m at_view at_room. is
    ∙ ap (λ (w : View). f (post_of n w old)) (read ∙ get_or_from_slice_get parts.routers.items r v seen at_view)
    ∙ ap (λ (one : Room). f (post_of n v one)) (read_room ∙ get_or_from_slice_get parts.room.items r m old at_room)))

-- ---- a router and its room as they are read

-- a router that is there stands at its node, and its post is what was read
pub record IsReadAt (parts : Parts) (r : ℕ) (post : Post) (view : View) (room : Room) : Type 0 where
  pub router : r < nodes parts.relation.grid
  pub site : view.site ≡ site_at (setup_in parts) r
  pub is : post ≡ post_of (local_port parts.relation.grid) view room

pub read_at : (parts : Parts) → IsInStep CYCLE_LIMIT (core_in parts) → vec_len parts.routers ≡ nodes parts.relation.grid → vec_len parts.room ≡ nodes parts.relation.grid
    → (r : ℕ) (post : Post) → post_at (core_in parts) r ≡ Some post → (view : View) → view ≡ get_or parts.routers.items r view → (room : Room) → room ≡ get_or parts.room.items r room
    → IsReadAt parts r post view room
read_at parts sound routers rooms r post at view read room read_room =
    let l = router_within CYCLE_LIMIT (core_in parts) sound r post at in
    let at_router = read_there parts.routers.items r view (omega (arith, parts.routers.ok.0)) read in
    let at_room = read_there parts.room.items r room (omega (arith, parts.room.ok.0)) read_room in
    record {
      router = l;
      site = router_site parts sound r view room at_router at_room;
      is = same_Some post (post_of (local_port parts.relation.grid) view room)
          (sym at ∙ post_there (local_port parts.relation.grid) parts.routers.items parts.room.items r view room at_router at_room);
    }

-- a beat was put
pub put_changed : (parts : Parts) (r port node entry : ℕ) (beat : Beat) (old room other new : Room) → neighbour parts.relation.grid r port ≡ Some (node, entry)
    → old ≡ get_or parts.room.items r old
    → ((v : View) → post_of (local_port parts.relation.grid) v room ≡ putting (setup_in parts) port (post_of (local_port parts.relation.grid) v old))
    → other ≡ get_or (set parts.room.items r room) node other
    → ((v : View) → post_of (local_port parts.relation.grid) v new ≡ receiving entry beat (post_of (local_port parts.relation.grid) v other))
    → beat ≡ beat_to_send port (post_at (core_in parts) r)
    → core_in (record parts { room = with_item (with_item parts.room r room) node new }) ≡ happens (core_in parts) (Put r port)
unfolding happens
put_changed parts r port node entry beat old room other new to read is read_other received beat_is =
    let own = core_in parts in
    let mid = with_post r (putting own.net port) own in
    room_changed (record parts { room = with_item parts.room r room }) node other new (receiving entry beat) read_other received
    ∙ ap (with_post node (receiving entry beat)) (room_changed parts r old room (putting own.net port) read is)
    ∙ ap (λ (b : Beat). onto_wire (Some (node, entry)) b mid) beat_is
    ∙ ap (λ (t : Option (ℕ × ℕ)). onto_wire t (beat_to_send port (post_at own r)) mid) (sym to)

-- a beat was put for which there was room
pub room_at_end : (parts : Parts) (r port node entry : ℕ) (post : Post) (old room other : Room) → IsInStep CYCLE_LIMIT (core_in parts) → length parts.room.items ≡ nodes parts.relation.grid
    → length parts.routers.items ≡ nodes parts.relation.grid
    → post_at (core_in parts) r ≡ Some post → has_beat post.unput port ≡ true → neighbour parts.relation.grid r port ≡ Some (node, entry)
    → old ≡ get_or parts.room.items r old
    → ((v : View) → post_of (local_port parts.relation.grid) v room ≡ putting (setup_in parts) port (post_of (local_port parts.relation.grid) v old))
    → other ≡ get_or (set parts.room.items r room) node other
    → length (get_or (wires_in other) entry []) < 2
room_at_end parts r port node entry post old room other sound rooms routers at has to read is read_other =
    let own = core_in parts in
    let n = local_port parts.relation.grid in
    let back = link_back parts.relation.grid r port node entry sound.grid (router_within CYCLE_LIMIT own sound r post at) to in
    let before = router_there CYCLE_LIMIT own sound node back.node in
    let count : length (set parts.room.items r room) ≡ length parts.room.items = length-set parts.room.items r room in
    let view = get_some parts.routers.items node (omega (arith, back.node)) in
    let there = post_there n parts.routers.items (set parts.room.items r room) node view.0 other view.1 (read_there (set parts.room.items r room) node other (omega (arith, back.node)) read_other) in
    let now : post_at (with_post r (putting own.net port) own) node ≡ Some (post_of n view.0 other) =
    ap (λ (k : CoreState). post_at k node) (sym (room_changed parts r old room (putting own.net port) read is)) ∙ there in
    let kept = kept_wire r node entry (putting own.net port) own before.0 (post_of n view.0 other) (λ one. finished-wires own.net (put_post port one)) before.1 now in
    let few = room_for_beat CYCLE_LIMIT own sound node entry r port before.0 post before.1 at back.back has in
    let same : get_or (take n (wires_in other)) entry [] ≡ get_or (wires_in other) entry [] = get_or-take n (wires_in other) entry [] back.port in
    omega (arith, few, ap length kept, ap length same)

-- where a router's link leads
pub place_of_link : (parts : Parts) (r port : ℕ) (view : View) (to : Option (ℕ × ℕ)) → view.site ≡ site_at (setup_in parts) r → to ≡ neighbour view.site.grid view.site.node port
    → neighbour parts.relation.grid r port ≡ to
place_of_link parts r port view to site is = sym (is ∙ ap (λ (s : Site). neighbour s.grid s.node port) site)

-- ---- what is read of a core

-- the router whose room is read
pub post_of_room : (parts : Parts) → IsInStep CYCLE_LIMIT (core_in parts) → vec_len parts.routers ≡ nodes parts.relation.grid → vec_len parts.room ≡ nodes parts.relation.grid
    → (r : ℕ) → r < nodes parts.relation.grid → (room : Room) → room ≡ get_or parts.room.items r room → (view : View) × (post_at (core_in parts) r ≡ Some (post_of (local_port parts.relation.grid) view room))
post_of_room parts sound routers rooms r l room read =
    let view = get_some parts.routers.items r (omega (arith, parts.routers.ok.0)) in
    (view.0, post_there (local_port parts.relation.grid) parts.routers.items parts.room.items r view.0 room view.1 (read_there parts.room.items r room (omega (arith, parts.room.ok.0)) read))

pub post_of_router : (parts : Parts) → IsInStep CYCLE_LIMIT (core_in parts) → vec_len parts.routers ≡ nodes parts.relation.grid → vec_len parts.room ≡ nodes parts.relation.grid
    → (r : ℕ) → r < nodes parts.relation.grid → (view : View) → view ≡ get_or parts.routers.items r view → (room : Room) × (post_at (core_in parts) r ≡ Some (post_of (local_port parts.relation.grid) view room))
post_of_router parts sound routers rooms r l view read =
    let room = get_some parts.room.items r (omega (arith, parts.room.ok.0)) in
    (room.0, post_there (local_port parts.relation.grid) parts.routers.items parts.room.items r view room.0 (read_there parts.routers.items r view (omega (arith, parts.routers.ok.0)) read) room.1)

-- its cycle is read there
pub steps_there : (parts : Parts) → IsInStep CYCLE_LIMIT (core_in parts) → vec_len parts.routers ≡ nodes parts.relation.grid → vec_len parts.room ≡ nodes parts.relation.grid
    → (r : ℕ) → r < nodes parts.relation.grid → (room : Room) → room ≡ get_or parts.room.items r room → room.steps ≡ steps_at (core_in parts) r
steps_there parts sound routers rooms r l room read =
    sym (ap (λ (o : Option Post). unwrap_or (option_map (λ (post : Post). post.steps) o) 0) (post_of_room parts sound routers rooms r l room read).1)

pub router_exists : (k : CoreState) → IsInStep CYCLE_LIMIT k → (r : ℕ) → is_some (post_at k r) ≡ true → r < nodes k.net.relation.grid
router_exists k sound r e = let post = some-value (post_at k r) e in router_within CYCLE_LIMIT k sound r post.0 post.1

pub no_router : (k : CoreState) → IsInStep CYCLE_LIMIT k → (r : ℕ) → nodes k.net.relation.grid ≤ r → post_at k r ≡ None
no_router k sound r past = slice_get_past k.posts r (omega (arith, sound.count))

-- a link of a router that is there, of which a core is asked as it is seen
pub record IsLinkOf (k : CoreState) (r port : ℕ) : Type 0 where
  pub linked : is_linked k.net r port ≡ true
  pub router : r < nodes k.net.relation.grid
  pub below : port < local_port k.net.relation.grid
  pub few : port < 6

pub link_there : (k own : CoreState) → own ≡ k → IsInStep CYCLE_LIMIT own → (r port : ℕ) → true ≡ (is_linked k.net r port && is_some (post_at k r)) → IsLinkOf own r port
link_there k own same sound r port linked =
    let there = and_parts (is_linked own.net r port) (is_some (post_at own r)) (ap (λ (c : CoreState). is_linked c.net r port && is_some (post_at c r)) same ∙ sym linked) in
    let within = linked_port own.net r port there.0 in
    record { linked = there.0; router = router_exists own sound r there.1; below = within; few = omega (arith, few_links own sound) }

-- what is ready at a router that is there
pub ready_there : (k : CoreState) (r port : ℕ) (may : Post → Bool) (post : Post) → is_linked k.net r port ≡ true → post_at k r ≡ Some post
    → may post ≡ (is_linked k.net r port && holds_at may (post_at k r))
ready_there k r port may post linked at = sym (ap (λ b. b && holds_at may (post_at k r)) linked ∙ ap (holds_at may) at)

pub unready : (linked : Bool) (may : Post → Bool) (post : Option Post) → (linked && is_some post) ≡ false → false ≡ (linked && holds_at may post)
unready false may post e = refl
unready true may None e = refl
unready true may (Some post) e = absurd (false≢true (sym e))

-- ---- a network's parts and the core on them

-- each router is opened on its room
pub opened_core : (parts : Parts) (rooms : List Room) → AreParts parts → length rooms ≡ nodes parts.relation.grid
    → ((r : ℕ) (view : View) (one : Room) → slice_get parts.routers.items r ≡ Some view → slice_get rooms r ≡ Some one
    → post_of (local_port parts.relation.grid) view one ≡ opened_post (local_port parts.relation.grid) view parts.count (get_or parts.beats.items r []))
    → record { net = setup_in parts; posts = posts_of (local_port parts.relation.grid) parts.routers.items rooms } ≡ lockstep_core (run_in parts)
unfolding lockstep_core
opened_core parts rooms sound count opened =
    let net = setup_in parts in
    let n = parts.count in
    let size = local_port parts.relation.grid in
    let begun = λ (r : ℕ) (view : View). resting_post net view n (lockstep_wires net n r) in
    let routers : length parts.routers.items ≡ nodes parts.relation.grid = ap length (views-in_step parts sound) ∙ count_views net n in
    let posts : length (posts_of (local_port parts.relation.grid) parts.routers.items rooms) ≡ length rooms = length-posts_of size parts.routers.items rooms (omega arith) in
    let begun_count : length (map_indexed (λ (r : ℕ) (view : View). resting_post net view n (lockstep_wires net n r)) (lockstep_at net n).views) ≡ length (lockstep_at net n).views = length-map_indexed begun (lockstep_at net n).views in
    ap (λ (posts : List Post). record { net = net; posts = posts })
    (same_lists (posts_of size parts.routers.items rooms) (map_indexed begun (lockstep_at net n).views) (omega (arith, ap length (views-in_step parts sound)))
    (λ r d l.
    let view = get_some parts.routers.items r (omega arith) in
    let one = get_some rooms r (omega arith) in
    let seen : slice_get (lockstep_at net n).views r ≡ Some view.0 = sym (ap (λ (views : List View). slice_get views r) (views-in_step parts sound)) ∙ view.1 in
    let site = view_site net n r view.0 seen in
    let row = get_or parts.beats.items r [] in
    let wires : opening_wires view.0.site.grid view.0.site.node row ≡ lockstep_wires net n r =
    ap (λ (s : Site). opening_wires s.grid s.node row) site
    ∙ tabulate-from_each size (λ port. if is_linked net r port then beat_at (lockstep_at net n).wires r port ∷ [] else [])
    (tabulate size (λ port. if is_linked net r port then get_or row port idle_beat ∷ [] else [])) [] (length-tabulate size _)
    (λ port m. get_or-tabulate size port (λ port. if is_linked net r port then get_or row port idle_beat ∷ [] else []) [] m
    ∙ ap (λ (beat : Beat). if is_linked net r port then beat ∷ [] else []) (wires-in_step parts sound r port)) in
    get_or_from_slice_get (posts_of size parts.routers.items rooms) r (post_of size view.0 one.0) d (post_there size parts.routers.items rooms r view.0 one.0 view.1 one.1)
    ∙ opened r view.0 one.0 view.1 one.1
    ∙ ap (λ (ws : List (List Beat)). resting_post net view.0 n ws) wires
    ∙ ap (begun r) (sym (get_or_from_slice_get (lockstep_at net n).views r view.0 view.0 seen))
    ∙ sym (get_or-map_indexed begun (lockstep_at net n).views r view.0 d (omega (arith, ap length (views-in_step parts sound))))))

-- where all routers rest at a count
pub all_rest : (size n : ℕ) (net : Setup) (views : List View) (rooms : List Room) → length views ≡ length rooms
    → are_between (record { net = net; posts = posts_of size views rooms }) n ≡ list_all (rests_at size n) rooms
all_rest size n net [] [] e = refl
all_rest size n net [] (room ∷ rooms) e = absurd (omega (arith, e))
all_rest size n net (view ∷ views) [] e = absurd (omega (arith, e))
all_rest size n net (view ∷ views) (room ∷ rooms) e =
    let same : length views ≡ length rooms = omega (arith, e) in
    ap (λ b. rests_at size n room && b) (all_rest size n net views rooms same)

-- it is asked of the rooms
pub told_rest : (parts : Parts) → vec_len parts.routers ≡ nodes parts.relation.grid → vec_len parts.room ≡ nodes parts.relation.grid
    → (size n : ℕ) (rooms : List Room) → size ≡ local_port parts.relation.grid → rooms ≡ parts.room.items → list_all (rests_at size n) rooms ≡ are_between (core_in parts) n
told_rest parts routers room size n rooms links items =
    ap (list_all (rests_at size n)) items ∙ ap (λ m. list_all (rests_at m n) parts.room.items) links
    ∙ sym (all_rest (local_port parts.relation.grid) n (setup_in parts) parts.routers.items parts.room.items (omega (arith, routers, room, parts.routers.ok.0, parts.room.ok.0)))

front_there : (net : Setup) (n r port : ℕ) (linked : Bool) → is_linked net r port ≡ linked
    → front_of (if linked then beat_at (lockstep_at net n).wires r port ∷ [] else []) ≡ beat_at (lockstep_at net n).wires r port
front_there net n r port true e = refl
front_there net n r port false e = sym (unlinked_beat net n r port (no-value (neighbour net.relation.grid r port) e))

-- a core whose routers are all between their cycles at count n has the views of the lockstep run
pub rested_views : (parts : Parts) (n : ℕ) → IsInStep CYCLE_LIMIT (core_in parts) → length parts.routers.items ≡ nodes parts.relation.grid → length parts.room.items ≡ nodes parts.relation.grid
    → are_between (core_in parts) n ≡ true → parts.routers.items ≡ (lockstep_at (setup_in parts) n).views
rested_views parts n sound routers rooms all =
    let net = setup_in parts in
    let views = count_views net n in
    same_lists parts.routers.items (lockstep_at net n).views (omega arith)
    (λ r d l.
    let view = get_some parts.routers.items r l in
    let one = get_some parts.room.items r (omega arith) in
    let post = post_of (local_port parts.relation.grid) view.0 one.0 in
    let at = post_there (local_port parts.relation.grid) parts.routers.items parts.room.items r view.0 one.0 view.1 one.1 in
    let between = here_between CYCLE_LIMIT n (core_in parts) sound all r post at in
    let cycle : cycle_of post ≡ n = between-cycle post between.0 ∙ between.1 in
    get_or_from_slice_get parts.routers.items r view.0 d view.1
    ∙ sym (get_or_from_slice_get (lockstep_at net n).views r view.0 d (sym (ap (λ m. slice_get (lockstep_at net m).views r) cycle) ∙ (sound.posts r post at).view)))

-- a core whose routers are all between their cycles at count n has, landed, the
-- beats of the lockstep run
pub rested_wires : (parts : Parts) (n : ℕ) (beats : List (List Beat)) → IsInStep CYCLE_LIMIT (core_in parts) → length parts.routers.items ≡ nodes parts.relation.grid → length parts.room.items ≡ nodes parts.relation.grid
    → length beats ≡ nodes parts.relation.grid → are_between (core_in parts) n ≡ true
    → ((r : ℕ) (one : Room) (port : ℕ) → slice_get parts.room.items r ≡ Some one → beat_at beats r port ≡ front_of (get_or (take (local_port parts.relation.grid) (wires_in one)) port []))
    → (r port : ℕ) → beat_at beats r port ≡ beat_at (lockstep_at (setup_in parts) n).wires r port
rested_wires parts n beats sound routers rooms count all landed r port =
    let net = setup_in parts in
    let size = local_port parts.relation.grid in
    ⊎_elim
    (λ (l : r < nodes parts.relation.grid).
    let view = get_some parts.routers.items r (omega arith) in
    let one = get_some parts.room.items r (omega arith) in
    let post = post_of (local_port parts.relation.grid) view.0 one.0 in
    let at = post_there size parts.routers.items parts.room.items r view.0 one.0 view.1 one.1 in
    landed r one.0 port one.1
    ∙ ⊎_elim
    (λ (m : port < local_port parts.relation.grid).
    ap front_of (wire_there CYCLE_LIMIT n (core_in parts) sound all r port post at m) ∙ front_there net n r port (is_linked net r port) refl)
    (λ (past : local_port parts.relation.grid ≤ port).
    ap front_of (get_or_past post.wires port [] (let c = (sound.posts r post at).wires in omega (arith, c))) ∙ sym (linked_wires net n r port past))
    (cases_lt port (local_port parts.relation.grid)))
    (λ (past : nodes parts.relation.grid ≤ r).
    ap (λ (row : List Beat). get_or row port idle_beat) (get_or_past beats r [] (omega arith)) ∙ sym (past_wires net n r port past))
    (cases_lt r (nodes parts.relation.grid))

pub some_node : (k : CoreState) → IsInStep CYCLE_LIMIT k → 0 < nodes k.net.relation.grid
some_node k sound = omega (arith, nodes-some k.net.relation.grid sound.grid)

-- where all routers are between their cycles at a count, that is within the limit
pub steps-within : (parts : Parts) (n : ℕ) → IsInStep CYCLE_LIMIT (core_in parts) → AreWithin CYCLE_LIMIT (core_in parts) → are_between (core_in parts) n ≡ true → n ≤ CYCLE_LIMIT
steps-within parts n sound within all =
    let some : 0 < length (core_in parts).posts = omega (arith, sound.count, some_node (core_in parts) sound) in
    let post = get_some (core_in parts).posts 0 some in
    let between = here_between CYCLE_LIMIT n (core_in parts) sound all 0 post.0 post.1 in
    let cycle : cycle_of post.0 ≡ n = between-cycle post.0 between.0 ∙ between.1 in
    let low = within 0 post.0 post.1 in
    omega arith

-- the run that a core is at
abbrev pub run_of_core : CoreState → ℕ → Run
run_of_core k n = record { net = k.net; count = n }
