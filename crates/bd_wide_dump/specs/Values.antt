-- The values of the fields of a document.
use Rattle.bd_value.specs.Tree.{Items, no_items, item, Fields, no_fields, field}

-- the values of fields, in order
abbrev pub values_in : Fields → Items
values_in no_fields = no_items
values_in (field n t fs) = item t (values_in fs)
