-- The end of a cycle, for a router that has taken its beats (docs/MODEL.md, "One router").
use Rattle.std.specs.Prelude.{ℕ}
use Rattle.noc_route.specs.Routes.{Routes}
use Rattle.noc_view.specs.View.{View, view_after_inject, decisions_of, view_after_commit}

-- after `finish`: what is due by cycle n is injected, and the decisions are committed
abbrev pub view_after_finish : Routes → ℕ → View → View
view_after_finish relation n v =
    let frozen = view_after_inject n v in
    view_after_commit (decisions_of relation frozen) frozen
