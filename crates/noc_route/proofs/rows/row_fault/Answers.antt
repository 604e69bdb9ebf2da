use Rattle.std.proofs.Common.{◌≡◌, true, false, None, Some, arith, sym, ap, ◌∙◌}
use Rattle.std.specs.Prelude.{nat_eq, nat_lt, if◌then◌else◌}
use Rattle.std.proofs.lemmas.Bool.{eq-eqb, ne_eqb, lt-ltb, le-ltb}
use Rattle.noc_topo.specs.Shape.{distance}
use Rattle.noc_route.specs.declared.rule.RouteFault.TheVariants.{EarlyEject, LateHop, NotMinimal}
use Rattle.noc_route.proofs.RowLemmas.{row_fault-real, row_fault-unreal}
use Rattle.noc_route.proofs.rows.row_fault.Goals as goal

pub returns-then-not-is_real : goal.returns-then-not-is_real
returns-then-not-is_real c = let f = c.args.map.now.sizes in row_fault-unreal f.shape f.vcs f.classes c.args.row.now (sym c.is_real.ensures ∙ c.if-not-is_real.true)

pub returns-in-None : goal.returns-in-None
returns-in-None c =
    let f = c.args.map.now.sizes in
    let row = c.args.row.now in
    let home : nat_eq row.router row.dst ≡ true = eq-eqb row.router row.dst c.if-row.true in
    ap (λ b. if b then None else Some (EarlyEject row)) (sym home)
    ∙ row_fault-real f.shape f.vcs f.classes row None (sym c.is_real.ensures ∙ c.if-not-is_real.false) (sym c.in-None.is ∙ c.link.ensures.value)

pub returns-in-None-2 : goal.returns-in-None-2
returns-in-None-2 c =
    let f = c.args.map.now.sizes in
    let row = c.args.row.now in
    let away : nat_eq row.router row.dst ≡ false = ne_eqb row.router row.dst c.if-row.false in
    ap (λ b. if b then None else Some (EarlyEject row)) (sym away)
    ∙ row_fault-real f.shape f.vcs f.classes row None (sym c.is_real.ensures ∙ c.if-not-is_real.false) (sym c.in-None.is ∙ c.link.ensures.value)

pub returns-in-Some : goal.returns-in-Some
returns-in-Some c =
    let f = c.args.map.now.sizes in
    let row = c.args.row.now in
    let to = c.in-Some.field-0 in
    let home : nat_eq row.router row.dst ≡ true = eq-eqb row.router row.dst c.if-row-2.true in
    ap (λ b. if b then Some (LateHop row) else (if nat_lt (distance f.shape to.0 row.dst) (distance f.shape row.router row.dst) then None else Some (NotMinimal row))) (sym home)
    ∙ row_fault-real f.shape f.vcs f.classes row (Some to) (sym c.is_real.ensures ∙ c.if-not-is_real.false) (sym c.in-Some.is ∙ c.link.ensures.value)

pub returns-then-distance : goal.returns-then-distance
returns-then-distance c =
    let f = c.args.map.now.sizes in
    let row = c.args.row.now in
    let to = c.in-Some.field-0 in
    let away : nat_eq row.router row.dst ≡ false = ne_eqb row.router row.dst c.if-row-2.false in
    let nearer : nat_lt (distance f.shape to.0 row.dst) (distance f.shape row.router row.dst) ≡ true = lt-ltb _ _ (omega (arith, c.if-distance.true, c.distance.ensures, c.distance-in-Some-2.ensures)) in
    ap (λ b. if b then None else Some (NotMinimal row)) (sym nearer)
    ∙ ap (λ b. if b then Some (LateHop row) else (if nat_lt (distance f.shape to.0 row.dst) (distance f.shape row.router row.dst) then None else Some (NotMinimal row))) (sym away)
    ∙ row_fault-real f.shape f.vcs f.classes row (Some to) (sym c.is_real.ensures ∙ c.if-not-is_real.false) (sym c.in-Some.is ∙ c.link.ensures.value)

pub returns-else-distance : goal.returns-else-distance
returns-else-distance c =
    let f = c.args.map.now.sizes in
    let row = c.args.row.now in
    let to = c.in-Some.field-0 in
    let away : nat_eq row.router row.dst ≡ false = ne_eqb row.router row.dst c.if-row-2.false in
    let farther : nat_lt (distance f.shape to.0 row.dst) (distance f.shape row.router row.dst) ≡ false = le-ltb _ _ (omega (arith, c.if-distance.false, c.distance.ensures, c.distance-in-Some-2.ensures)) in
    ap (λ b. if b then None else Some (NotMinimal row)) (sym farther)
    ∙ ap (λ b. if b then Some (LateHop row) else (if nat_lt (distance f.shape to.0 row.dst) (distance f.shape row.router row.dst) then None else Some (NotMinimal row))) (sym away)
    ∙ row_fault-real f.shape f.vcs f.classes row (Some to) (sym c.is_real.ensures ∙ c.if-not-is_real.false) (sym c.in-Some.is ∙ c.link.ensures.value)
