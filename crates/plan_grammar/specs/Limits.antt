-- The greatest plan.
use Rattle.std.specs.Prelude.{ℕ}

-- the bytes of a plan
abbrev pub most_bytes : ℕ
most_bytes = 16777216

-- the controllers
abbrev pub most_controllers : ℕ
most_controllers = 8

-- for each controller
abbrev pub most_chips : ℕ
most_chips = 8

-- over all chips
abbrev pub most_pages : ℕ
most_pages = 524288

-- over all data lines
abbrev pub most_data : ℕ
most_data = 16777216

-- the boots
abbrev pub most_boots : ℕ
most_boots = 64

-- over all boots
abbrev pub most_flips : ℕ
most_flips = 65536

-- for each boot
abbrev pub most_sessions : ℕ
most_sessions = 64

-- over all boots, by the cost of commands
abbrev pub most_operations : ℕ
most_operations = 65536

-- pages, blocks, counts, bits and events are below this number
abbrev pub word_limit : ℕ
word_limit = 4294967296

-- the greatest end of a span: the bytes of the largest page with its spare
abbrev pub longest_page : ℕ
longest_page = 4320

-- a chip with tables on flash has at most so many bad ones among its last four blocks
abbrev pub most_bad_table_blocks : ℕ
most_bad_table_blocks = 2
