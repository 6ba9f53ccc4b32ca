-- The limits of inputs, values, requests and sessions.
use Rattle.std.specs.Prelude.{ℕ}

-- the greatest length of a document, in bytes: 16 MiB, and the 16 KiB that a server may add
abbrev pub longest_document : ℕ
longest_document = 16793600

-- the greatest length of an input, in bytes: 2^32 - 1
abbrev pub longest_input : ℕ
longest_input = 4294967295

-- the greatest length of a command to a session, and so of a line without its newline, in bytes: 16 MiB
abbrev pub longest_command : ℕ
longest_command = 16777216

-- the most reads of an input: one for each byte, and the one that finds the end
abbrev pub most_reads : ℕ
most_reads = 4294967296

-- the most levels of nested documents and arrays; the outermost document is level 1
abbrev pub most_levels : ℕ
most_levels = 200

-- the most levels of nested brackets in JSON:
-- a value at the deepest level may be a wrapper with an object in an object
abbrev pub most_brackets : ℕ
most_brackets = 203

-- the most names in a path
abbrev pub most_names : ℕ
most_names = 100

-- the most levels of a filter; the top is level 1
abbrev pub most_filter_levels : ℕ
most_filter_levels = 50

-- the greatest skip, limit and batch size: 2^31 - 1
abbrev pub greatest_count : ℕ
greatest_count = 2147483647

-- the most indexes in a session
abbrev pub most_indexes : ℕ
most_indexes = 16

-- the most cursors that are open in a session
abbrev pub most_cursors : ℕ
most_cursors = 64
