-- The access path of a request: how its documents are reached, by which index or without one;
-- and that an access path in memory leads to all matches.
use Rattle.std.specs.Prelude.{◌≡◌}
use Rattle.bd_cursor.specs.{declared.access.Access.Access}
use Rattle.bd_bson_dump.specs.declared.collection.Dump.{Dump}
use Rattle.bd_cursor_request.specs.declared.request.Request.{Request}
use Rattle.bd_cursor.specs.Access.{AccessPath, access_path, IsAccessOf}

-- ---- an access path in memory

-- The access path in memory is this one, and leads to all documents that match the request.
pub record Reaches (dump : Dump) (r : Request) (path : AccessPath) (access : Access) : Type 0 where
  pub is : access_path access ≡ path
  pub leads : IsAccessOf dump r access
