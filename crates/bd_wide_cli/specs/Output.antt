-- The usage of `bsonwide` and its version.
use Rattle.std.specs.Prelude.{ℕ, List, ◌++◌, codes}

-- what `bsonwide --version` prints
abbrev pub version : List ℕ
version = codes "bsonwide 0.1.0\n"

-- the usage of `bsonwide`
abbrev pub usage : List ℕ
usage = codes "usage: bsonwide dump FILE [--type TYPE] [--jsonFormat FORMAT] [--jsonArray] [--pretty]"
    ++ codes " [--fields FIELDS] [--noId] [--noHeaderLine]\n"
    ++ codes "       bsonwide check FILE\n"
    ++ codes "       bsonwide pack FILE\n"
    ++ codes "       bsonwide find FILE [--query Q | --queryFile FILE] [--sort S] [--skip N] [--limit N]"
    ++ codes " [--batch N] [--index PATH] [--after TOKEN]"
    ++ codes " [--type TYPE] [--jsonFormat FORMAT] [--jsonArray] [--pretty] [--fields FIELDS] [--noId] [--noHeaderLine]"
    ++ codes " [--bson | --count]\n"
    ++ codes "       bsonwide serve FILE [--byValue]\n"
