-- What the options ask, or why they are refused.
use Rattle.std.proofs.Common.{◌≡◌, ◌∙◌, List, ℕ, Ok, inl, inr, subst, string_bytes}
use Rattle.std.specs.Prelude.{ℤ, None}
use Rattle.bd_value.specs.Tree.{AreParts, Doc, doc, fields_of, pairs_of-fields_of}
use Rattle.bd_cursor_request.specs.Refused.{reason_of}
use Rattle.bd_cli_args.specs.FindOptions.{FindOptions}
use Rattle.bd_cli_find.specs.Options.{ReportsSearchFault, refused_text, search_of}
use Rattle.bd_cli_find.specs.declared.options.{SearchFault.SearchFault}
use Rattle.bd_cli_find.specs.declared.options.SearchFault.TheVariants as faults
use Rattle.bd_cli_find.proofs.OptionsLemmas.{part_refused}
use Rattle.bd_wide_number.specs.declared.number.Number.{Number}
use Rattle.bd_wide_rank.specs.Worth.{worth}
use Rattle.bd_wide_copy.specs.Dump.{AreDocuments, AreJoinedBy}
use Rattle.bd_wide_copy.specs.Classes.{classed}
use Rattle.bd_wide_copy.specs.declared.longs.Longs.{Longs}
use Rattle.bd_wide_copy.proofs.ClassLemmas.{are_classed}
use Rattle.bd_wide_query.specs.{Split.third_class, Types.longs_of}
use Rattle.bd_wide_substitute.specs.Both.{IsRead}
use Rattle.bd_wide_find.specs.{Find.IsNoRequest, Find.IsRefused, Find.IsRefusedOver, Options.requested_of, Options.sort_in}
use Rattle.bd_wide_find.specs.declared.coded.Coded.{Coded}
use Rattle.bd_wide_find.specs.Coded.{CopiesDump, IsTableOf}
use Rattle.bd_wide_find.specs.inside.Fault.{ReportsAs}
use Rattle.bd_wide_find.specs.inside.Question.{SearchesBy, SearchesCopy}

-- the parts of a document are its pairs
pub parts_are : (d ps : Doc) → AreParts (doc (fields_of d)) ps → ps ≡ d
parts_are d ps are = are ∙ pairs_of-fields_of d

-- what the options ask is refused
pub refused_options : (text : List ℕ) (options : FindOptions) (wholes texts : Doc) (numbers : List Number) → IsRead text wholes texts numbers
    → (fault : SearchFault) → ReportsSearchFault (requested_of options texts) fault → ReportsAs (IsRefused text options) fault
refused_options text options wholes texts numbers read faults.NoMemory reported = tt
refused_options text options wholes texts numbers read (faults.Refused refused) reported = inr (wholes, texts, numbers, read, reported)
refused_options text options wholes texts numbers read (faults.Message message) reported = inr (wholes, texts, numbers, read, reported)

module _ (options : FindOptions) (query : Doc) where
  -- what the options request is refused if the sort is, or what follows it
  pub sort_refused : (fault : SearchFault) → ReportsSearchFault (sort_in options.sort) fault → ReportsSearchFault (requested_of options query) fault
  sort_refused = part_refused (sort_in options.sort) (search_of options query)

  pub search_refused : (sort : Doc) (fault : SearchFault) → sort_in options.sort ≡ Ok sort
      → ReportsSearchFault (search_of options query sort) fault → ReportsSearchFault (requested_of options query) fault
  search_refused sort fault s none = rw s none

-- a message of one property is one of a weaker
pub reports_more : (Is More : List ℕ → Type 0) → ((message : List ℕ) → Is message → More message) → (fault : SearchFault) → ReportsAs Is fault
    → ReportsAs More fault
reports_more Is More more faults.NoMemory reported = tt
reports_more Is More more (faults.Refused refused) reported = more (refused_text (reason_of refused)) reported
reports_more Is More more (faults.Message message) reported = more (string_bytes message) reported

module _ (options : FindOptions) (numbers : List Number) (wholes texts : Doc) (bytes : List ℕ) where
  module _ (documents : AreDocuments bytes) (longs : Longs) (is : longs ≡ longs_of (fields_of texts)) (two : third_class (fields_of texts) ≡ None) where
    abbrev these : (ds : List Doc) × AreJoinedBy (classed (longs_of (fields_of texts)) worth) ds bytes
    these = are_classed (longs_of (fields_of texts)) worth bytes documents

    -- the options are refused over a dump
    pub refused_over : (table : List ℤ) → IsTableOf bytes table → (fault : SearchFault) → ReportsAs (IsNoRequest options longs numbers wholes texts table) fault
        → ReportsAs (IsRefusedOver options numbers wholes texts bytes) fault
    refused_over table of fault =
        reports_more (IsNoRequest options longs numbers wholes texts table) (IsRefusedOver options numbers wholes texts bytes)
        (λ message no. inr (
          two,
          (
            these.0,
            table,
            of (longs_of (fields_of texts)) these.0 these.1,
            subst (λ (l : Longs). IsNoRequest options l numbers wholes texts table message) is no,
          ),
        )) fault

    -- a search with codes, and the copy
    pub searches_copy : (table : List ℤ) → IsTableOf bytes table → (c : Coded) → SearchesBy options longs numbers wholes texts table c.search
        → CopiesDump longs bytes table c.copy → SearchesCopy options numbers wholes texts bytes c
    searches_copy table of c searches copies = record {
      two_classes = two;
      ds = these.0;
      table = table;
      has = of (longs_of (fields_of texts)) these.0 these.1;
      searches = subst (λ (l : Longs). SearchesBy options l numbers wholes texts table c.search) is searches;
      copies = subst (λ (l : Longs). CopiesDump l bytes table c.copy) is copies;
    }
