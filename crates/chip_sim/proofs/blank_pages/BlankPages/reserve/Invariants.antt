use Rattle.std.proofs.Common.{◌≡◌, ◌≤◌, vec_len, All}
use Rattle.chip_sim.specs.Blanks.{blank_cells}
use Rattle.chip_sim.proofs.blank_pages.BlankPages.reserve.Given as goal

abbrev pub invariant-loop : goal.invariant-loop
invariant-loop l =
    record {
      blank : All (λ cells. cells ≡ blank_cells l.self-inside.raw_len) l.self-inside.pages.items;
      same_raw_len : l.self-inside.raw_len ≡ l.initial.self-inside.raw_len;
      no_less : vec_len l.initial.self-inside.pages ≤ vec_len l.self-inside.pages;
      enough : l.counter ≤ vec_len l.self-inside.pages;
    }
