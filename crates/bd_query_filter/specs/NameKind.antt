-- The names that mean something in a filter (MongoDB manual, "Query and Projection Operators").
use Rattle.std.specs.Prelude.{ℕ, ℤ, pos, negsuc, Bool, false, ◌==◌, List, [], ◌∷◌, codes, Option, Some, option_map}
use Rattle.std.specs.Prelude.{if◌then◌else◌, unwrap_or}
use Rattle.std.specs.{List.find, List.list_any, Ordering.int_eq, Str.bytes_eq}
use denote.Enum.Bare.{sameb}
use Rattle.bd_value.specs.{contracts.node.Kind.the_type, declared.node.Kind.Kind}
use Rattle.bd_value.specs.declared.node.Kind.TheVariants as kinds
use Rattle.bd_query_filter.specs.declared.filter_of.LogicalOperator.TheVariants as logical
use Rattle.bd_query_filter.specs.declared.filter_of.PlainOperator.TheVariants as plain
use Rattle.bd_query_filter.specs.declared.filter_of.NameKind.{NameKind}
use Rattle.bd_query_filter.specs.declared.filter_of.NameKind.TheVariants as name_kinds
use Rattle.bd_query_filter.specs.declared.operand.Relation.TheVariants as relation

-- whether a name begins with `$`, so that it is not a field name in a filter
abbrev pub begins_with_dollar : List ℕ → Bool
begins_with_dollar [] = false
begins_with_dollar (c ∷ cs) = c == 36

-- the operators of queries that are supported, by name
abbrev pub query_operators : List (List ℕ × NameKind)
query_operators =
    (codes "$and", name_kinds.Logical logical.And) ∷ (codes "$or", name_kinds.Logical logical.Or)
    ∷ (codes "$nor", name_kinds.Logical logical.Nor)
    ∷ (codes "$eq", name_kinds.Plain plain.Equal) ∷ (codes "$ne", name_kinds.Plain plain.NotEqual)
    ∷ (codes "$gt", name_kinds.Plain (plain.Order relation.Above))
    ∷ (codes "$gte", name_kinds.Plain (plain.Order relation.AtLeast))
    ∷ (codes "$lt", name_kinds.Plain (plain.Order relation.Below))
    ∷ (codes "$lte", name_kinds.Plain (plain.Order relation.AtMost))
    ∷ (codes "$in", name_kinds.Plain plain.In) ∷ (codes "$nin", name_kinds.Plain plain.NotIn)
    ∷ (codes "$all", name_kinds.Plain plain.All)
    ∷ (codes "$size", name_kinds.Plain plain.Size) ∷ (codes "$exists", name_kinds.Plain plain.Exists)
    ∷ (codes "$type", name_kinds.Plain plain.Type)
    ∷ (codes "$not", name_kinds.Not) ∷ (codes "$elemMatch", name_kinds.ElemMatch) ∷ []

-- the names that are recognised but not supported: operators of the manual, and the names of a DBRef
abbrev pub omitted_names : List (List ℕ)
omitted_names =
    codes "$regex" ∷ codes "$options" ∷ codes "$mod" ∷ codes "$expr" ∷ codes "$where"
    ∷ codes "$text" ∷ codes "$jsonSchema"
    ∷ codes "$comment" ∷ codes "$geoWithin" ∷ codes "$geoIntersects" ∷ codes "$near"
    ∷ codes "$nearSphere" ∷ codes "$bitsAllSet"
    ∷ codes "$bitsAnySet" ∷ codes "$bitsAllClear" ∷ codes "$bitsAnyClear" ∷ codes "$ref"
    ∷ codes "$id" ∷ codes "$db" ∷ []

-- whether a name is recognised but not supported
unfoldable pub is_omitted : List ℕ → Bool
is_omitted name = list_any (λ omitted. bytes_eq omitted name) omitted_names

-- the supported operator with this name, if any
unfoldable pub known_operator : List ℕ → Option NameKind
known_operator name = option_map (λ row. row.1) (find (λ row. bytes_eq row.0 name) query_operators)

-- what a name in a filter is: a field, if it does not begin with `$`;
-- else a supported operator, one that is recognised but not supported, or unknown
unfoldable pub name_kind_of : List ℕ → NameKind
name_kind_of name =
    if begins_with_dollar name
    then unwrap_or (known_operator name) (if is_omitted name then name_kinds.Omitted else name_kinds.Unknown)
    else name_kinds.Field

-- the types of `$type` (MongoDB manual, "$type"): number, name, and kinds. Doubles and decimals have none.
abbrev pub query_types : List (ℤ × List ℕ × List Kind)
query_types =
    (pos 1, codes "double", []) ∷ (pos 2, codes "string", kinds.Text ∷ []) ∷ (pos 3, codes "object", kinds.Doc ∷ [])
    ∷ (pos 4, codes "array", kinds.Array ∷ []) ∷ (pos 5, codes "binData", kinds.Binary ∷ [])
    ∷ (pos 6, codes "undefined", kinds.Undefined ∷ []) ∷ (pos 7, codes "objectId", kinds.ObjectId ∷ [])
    ∷ (pos 8, codes "bool", kinds.Bool ∷ []) ∷ (pos 9, codes "date", kinds.Date ∷ [])
    ∷ (pos 10, codes "null", kinds.Null ∷ [])
    ∷ (pos 11, codes "regex", kinds.Regex ∷ []) ∷ (pos 12, codes "dbPointer", kinds.DbPointer ∷ [])
    ∷ (pos 13, codes "javascript", kinds.Code ∷ []) ∷ (pos 14, codes "symbol", kinds.Symbol ∷ [])
    ∷ (pos 15, codes "javascriptWithScope", kinds.CodeScope ∷ []) ∷ (pos 16, codes "int", kinds.Int32 ∷ [])
    ∷ (pos 17, codes "timestamp", kinds.Timestamp ∷ []) ∷ (pos 18, codes "long", kinds.Int64 ∷ [])
    ∷ (pos 19, codes "decimal", [])
    ∷ (negsuc 0, codes "minKey", kinds.MinKey ∷ []) ∷ (pos 127, codes "maxKey", kinds.MaxKey ∷ []) ∷ []

-- the kinds of a type by its name (MongoDB manual, "$type"); `number` is int32 and int64;
-- None if no type has the name
unfoldable pub kinds_named : List ℕ → Option (List Kind)
kinds_named name = if bytes_eq name (codes "number") then Some (kinds.Int32 ∷ kinds.Int64 ∷ [])
    else option_map (λ row. row.2) (find (λ row. bytes_eq row.1 name) query_types)

-- the kinds of a type by its number (MongoDB manual, "$type");
-- of double and decimal none, since they are not supported; None if no type has the number
unfoldable pub kinds_numbered : ℤ → Option (List Kind)
kinds_numbered number = option_map (λ row. row.2) (find (λ row. int_eq row.0 number) query_types)

-- whether two kinds are the same
abbrev pub is_kind : Kind → Kind → Bool
is_kind = sameb the_type
