-- The blocks of a tile from which links lead to another one.
use Rattle.std.proofs.Common.{◌≡◌, ℕ, ◌+◌, ◌*◌, ◌/◌, ◌%◌, ◌<◌, ◌≤◌, true, List, [], ◌∷◌, ◌++◌, Contains, Some, length, ap, ap₂, sym, ◌∙◌, subst, arith, inl, inr}
use Rattle.std.specs.Prelude.{◌&&◌, nat_le, nat_lt}
use Rattle.std.specs.List.{slice_get}
use Rattle.std.proofs.lemmas.Bool.{and_parts, cases_eq, le-leb, leb-true, lt-ltb, ltb-true}
use Rattle.std.proofs.lemmas.List.Elements.{Contains-append_left, Contains-push}
use Rattle.noc_topo.specs.Shape.{neighbour, nodes}
use Rattle.noc_topo.proofs.LinkLemmas.{link_back}
use Rattle.noc_columns.specs.declared.ports.TheConstants.{PORTS}
use Rattle.noc_columns.specs.declared.words.TheConstants.{ROUTERS}
use Rattle.noc_cycles.specs.Around.{end_by, number_or_nowhere}
use Rattle.noc_cycles.specs.declared.around.Around.{Around}
use Rattle.noc_workers.specs.Cuts.{HasAllNear}
use Rattle.noc_engine.specs.Shows.{has_block, has_router}
use Rattle.noc_engine.specs.declared.plan.Plan.{Plan}
use Rattle.noc_engine.specs.declared.tile.Tile.{Tile}
use Rattle.noc_engine.proofs.ListLemmas.{there as item-at}

-- of the blocks from one up to another, those from which links lead to a tile are in a list
abbrev pub HasAllBelow : Plan → Tile → ℕ → ℕ → List ℕ → Type 0
HasAllBelow plan there from to near =
    (b r p : ℕ) (one : Around) → from ≤ b → b < to → slice_get plan.around.items b ≡ Some one → r < ROUTERS → p < PORTS → has_router there (end_by one.ends r p) ≡ true → Contains near b

module _ (plan : Plan) (there : Tile) (from block : ℕ) (near : List ℕ) (all : HasAllBelow plan there from block near) where
  -- links lead from the next one
  pub below-more : HasAllBelow plan there from (block + 1) (near ++ block ∷ [])
  below-more b r p one low high at few port has = elim (cases_eq b block) [
    | inl same ↦ subst (λ n. Contains (near ++ block ∷ []) n) (sym same) (Contains-push near block)
    | inr other ↦ Contains-append_left near (block ∷ []) b (all b r p one low (omega (arith, high, other)) at few port has)
  ]

  -- or from none of its routers
  pub below-same : (this : Around) → slice_get plan.around.items block ≡ Some this → ((r p : ℕ) → r < ROUTERS → p < PORTS → has_router there (end_by this.ends r p) ≡ true → ⊥) → HasAllBelow plan there from (block + 1) near
  below-same this here none b r p one low high at few port has = elim (cases_eq b block) [
    | inl same ↦ let is : Some one ≡ Some this = sym at ∙ ap (slice_get plan.around.items) same ∙ here in absurd (none r p few port (ap (λ (a : Around). has_router there (end_by a.ends r p)) (let e : this ≡ one = cc (sym is) in e) ∙ has))
    | inr other ↦ all b r p one low (omega (arith, high, other)) at few port has
  ]

pub own-block : (tile : Tile) (b : ℕ) → tile.first ≤ b → b < tile.first + length tile.blocks.items → has_block tile b ≡ true
own-block tile b low high = ap₂ (λ x y. x && y) (le-leb tile.first b low) (lt-ltb b (tile.first + length tile.blocks.items) high)

-- all of them are in the list
pub near-done : (plan : Plan) (here there : Tile) (near : List ℕ) → HasAllBelow plan there here.first (here.first + length here.blocks.items) near → HasAllNear plan here there near
near-done plan here there near all net s q r port good is l e f h =
    let g = net.relation.grid in
    let sound = good.relation.table.grid in
    let back = link_back g r q s port sound l f in
    let within = back.node in
    let most = is.blocks in
    let parts = and_parts (nat_le here.first (s / 64)) (nat_lt (s / 64) (here.first + length here.blocks.items)) h in
    let one = item-at plan.around.items (s / 64) (omega (arith, within, most)) in
    let place : 64 * (s / 64) + s % 64 ≡ s = omega arith in
    let end : end_by one.0.ends (s % 64) port ≡ r =
    (is.around (s / 64) one.0 one.1).ends (s % 64) port (omega arith) (subst (λ n. n < nodes g) (sym place) within) back.port
    ∙ ap (λ n. number_or_nowhere (neighbour g n port)) place ∙ ap number_or_nowhere back.back in
    let few = sound.few_dimensions in
    let link = back.port in
    all (s / 64) (s % 64) port one.0 (leb-true here.first (s / 64) parts.0) (ltb-true (s / 64) (here.first + length here.blocks.items) parts.1) one.1 (omega arith) (omega (arith, few, link)) (ap (has_router there) end ∙ e)
